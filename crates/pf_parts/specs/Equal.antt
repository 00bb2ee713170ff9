-- When two parts of rules are one: a part is told by the values that it is made of.
use Rattle.std.specs.Prelude.{◌≡◌, ℕ, zero, suc, Bool, true, false, ◌⊎◌, List, Option, Some, None, refl}
use Rattle.std.proofs.Common.{inl, inr}
use Rattle.pf_base.specs.Equality.{Equality, lists, made_of, numbers, options, pairs, sums, truths}
use Rattle.pf_parts.specs.declared.block.BlockKind.{BlockKind}
use Rattle.pf_parts.specs.declared.block.BlockKind.TheVariants as block
use Rattle.pf_parts.specs.declared.call.Base.{Base}
use Rattle.pf_parts.specs.declared.call.Base.TheVariants.{Below, Up, Root}
use Rattle.pf_parts.specs.declared.call.Call.{Call}
use Rattle.pf_parts.specs.declared.direction.Direction.{Direction}
use Rattle.pf_parts.specs.declared.direction.Direction.TheVariants.{In, Out}
use Rattle.pf_parts.specs.declared.matching.IfTest.{IfTest}
use Rattle.pf_parts.specs.declared.matching.IfTest.TheVariants as interface
use Rattle.pf_parts.specs.declared.matching.TagTest.{TagTest}
use Rattle.pf_parts.specs.declared.matching.TagTest.TheVariants as tag
use Rattle.pf_parts.specs.declared.params.Log.{Log}
use Rattle.pf_parts.specs.declared.params.Prios.{Prios}
use Rattle.pf_parts.specs.declared.params.Queues.{Queues}
use Rattle.pf_parts.specs.declared.params.Scrub.{Scrub}
use Rattle.pf_parts.specs.declared.state.Flush.{Flush}
use Rattle.pf_parts.specs.declared.state.Flush.TheVariants as flush
use Rattle.pf_parts.specs.declared.state.Overload.{Overload}
use Rattle.pf_parts.specs.declared.state.Rate.{Rate}
use Rattle.pf_parts.specs.declared.state.StateKind.{StateKind}
use Rattle.pf_parts.specs.declared.state.StateKind.TheVariants as state
use Rattle.pf_parts.specs.declared.state.StateOptions.{StateOptions}
use Rattle.pf_parts.specs.declared.state.Track.{Track}
use Rattle.pf_parts.specs.declared.state.Track.TheVariants as track

-- names, as clauses see them
abbrev pub names : Equality (List ℕ)
names = lists numbers

-- `in` and `out`
abbrev pub is_out : Direction → Bool
is_out In = false
is_out Out = true

abbrev pub direction_of : Bool → Direction
direction_of false = In
direction_of true = Out

pub direction_back : (direction : Direction) → direction_of (is_out direction) ≡ direction
direction_back In = refl
direction_back Out = refl

abbrev pub directions : Equality Direction
directions = made_of is_out direction_of direction_back truths

-- a test of an interface: none, or a name and whether it is negated
abbrev pub interface_parts : IfTest → Option (List ℕ × Bool)
interface_parts interface.Any = None
interface_parts (interface.On name negated) = Some (name, negated)

abbrev pub interface_of : Option (List ℕ × Bool) → IfTest
interface_of None = interface.Any
interface_of (Some parts) = interface.On parts.0 parts.1

pub interface_back : (test : IfTest) → interface_of (interface_parts test) ≡ test
interface_back interface.Any = refl
interface_back (interface.On name negated) = refl

abbrev pub interface_tests : Equality IfTest
interface_tests = made_of interface_parts interface_of interface_back (options (pairs names truths))

-- a test of a tag, the same
abbrev pub tag_parts : TagTest → Option (List ℕ × Bool)
tag_parts tag.Any = None
tag_parts (tag.Is name negated) = Some (name, negated)

abbrev pub tag_of : Option (List ℕ × Bool) → TagTest
tag_of None = tag.Any
tag_of (Some parts) = tag.Is parts.0 parts.1

pub tag_back : (test : TagTest) → tag_of (tag_parts test) ≡ test
tag_back tag.Any = refl
tag_back (tag.Is name negated) = refl

abbrev pub tag_tests : Equality TagTest
tag_tests = made_of tag_parts tag_of tag_back (options (pairs names truths))

-- kinds of states
abbrev pub state_number : StateKind → ℕ
state_number state.None = 0
state_number state.Keep = 1
state_number state.Modulate = 2
state_number state.Synproxy = 3

abbrev pub state_of : ℕ → StateKind
state_of zero = state.None
state_of (suc zero) = state.Keep
state_of (suc (suc zero)) = state.Modulate
state_of (suc (suc (suc n))) = state.Synproxy

pub state_back : (kind : StateKind) → state_of (state_number kind) ≡ kind
state_back state.None = refl
state_back state.Keep = refl
state_back state.Modulate = refl
state_back state.Synproxy = refl

abbrev pub states : Equality StateKind
states = made_of state_number state_of state_back numbers

-- `source-track`
abbrev pub track_number : Track → ℕ
track_number track.Plain = 0
track_number track.Rule = 1
track_number track.Global = 2

abbrev pub track_of : ℕ → Track
track_of zero = track.Plain
track_of (suc zero) = track.Rule
track_of (suc (suc n)) = track.Global

pub track_back : (kind : Track) → track_of (track_number kind) ≡ kind
track_back track.Plain = refl
track_back track.Rule = refl
track_back track.Global = refl

abbrev pub tracks : Equality Track
tracks = made_of track_number track_of track_back numbers

-- `flush`
abbrev pub flush_number : Flush → ℕ
flush_number flush.No = 0
flush_number flush.Flush = 1
flush_number flush.Global = 2

abbrev pub flush_of : ℕ → Flush
flush_of zero = flush.No
flush_of (suc zero) = flush.Flush
flush_of (suc (suc n)) = flush.Global

pub flush_back : (kind : Flush) → flush_of (flush_number kind) ≡ kind
flush_back flush.No = refl
flush_back flush.Flush = refl
flush_back flush.Global = refl

abbrev pub flushes : Equality Flush
flushes = made_of flush_number flush_of flush_back numbers

abbrev pub rates : Equality Rate
rates = made_of (λ rate. (rate.count, rate.seconds)) (λ parts. record { count = parts.0; seconds = parts.1 }) (λ _. refl) (pairs numbers numbers)

abbrev pub overloads : Equality Overload
overloads = made_of (λ overload. (overload.table, overload.flush)) (λ parts. record { table = parts.0; flush = parts.1 }) (λ _. refl) (pairs names flushes)

-- the options of a state: those with values, and those that are set or not
unfoldable pub options_of_states : Equality StateOptions
options_of_states =
    made_of
    (λ o. ((o.max, (o.source_track, (o.max_src_nodes, (o.max_src_states, (o.max_src_conn, (o.max_src_conn_rate, o.overload)))))), (o.sloppy, (o.no_sync, (o.pflow, (o.if_bound, o.floating))))))
    (λ p. record {
      max = p.0.0;
      source_track = p.0.1.0;
      max_src_nodes = p.0.1.1.0;
      max_src_states = p.0.1.1.1.0;
      max_src_conn = p.0.1.1.1.1.0;
      max_src_conn_rate = p.0.1.1.1.1.1.0;
      overload = p.0.1.1.1.1.1.1;
      sloppy = p.1.0;
      no_sync = p.1.1.0;
      pflow = p.1.1.1.0;
      if_bound = p.1.1.1.1.0;
      floating = p.1.1.1.1.1;
    })
    (λ _. refl)
    (pairs
    (pairs (options numbers) (pairs (options tracks) (pairs (options numbers) (pairs (options numbers) (pairs (options numbers) (pairs (options rates) (options overloads)))))))
    (pairs truths (pairs truths (pairs truths (pairs truths truths)))))

abbrev pub queue_pairs : Equality Queues
queue_pairs = made_of (λ queues. (queues.first, queues.second)) (λ parts. record { first = parts.0; second = parts.1 }) (λ _. refl) (pairs names (options names))

abbrev pub prio_pairs : Equality Prios
prio_pairs = made_of (λ prios. (prios.first, prios.second)) (λ parts. record { first = parts.0; second = parts.1 }) (λ _. refl) (pairs numbers (options numbers))

unfoldable pub scrubs : Equality Scrub
scrubs =
    made_of
    (λ s. (s.no_df, (s.random_id, (s.reassemble_tcp, (s.min_ttl, s.max_mss)))))
    (λ p. record { no_df = p.0; random_id = p.1.0; reassemble_tcp = p.1.1.0; min_ttl = p.1.1.1.0; max_mss = p.1.1.1.1 })
    (λ _. refl)
    (pairs truths (pairs truths (pairs truths (pairs (options numbers) (options numbers)))))

unfoldable pub logs : Equality Log
logs =
    made_of
    (λ l. (l.on, (l.all, (l.matches, (l.user, l.to)))))
    (λ p. record { on = p.0; all = p.1.0; matches = p.1.1.0; user = p.1.1.1.0; to = p.1.1.1.1 })
    (λ _. refl)
    (pairs truths (pairs truths (pairs truths (pairs truths (options names)))))

-- kinds of blocks: without a value, with a ttl, or with two codes
abbrev pub block_parts : BlockKind → Bool ⊎ (ℕ ⊎ (ℕ × ℕ))
block_parts block.Drop = inl false
block_parts block.Return = inl true
block_parts (block.Rst ttl) = inr (inl ttl)
block_parts (block.Icmp code code6) = inr (inr (code, code6))

abbrev pub block_of : Bool ⊎ (ℕ ⊎ (ℕ × ℕ)) → BlockKind
block_of (inl false) = block.Drop
block_of (inl true) = block.Return
block_of (inr (inl ttl)) = block.Rst ttl
block_of (inr (inr codes)) = block.Icmp codes.0 codes.1

pub block_back : (kind : BlockKind) → block_of (block_parts kind) ≡ kind
block_back block.Drop = refl
block_back block.Return = refl
block_back (block.Rst ttl) = refl
block_back (block.Icmp code code6) = refl

abbrev pub block_kinds : Equality BlockKind
block_kinds = made_of block_parts block_of block_back (sums truths (sums numbers (pairs numbers numbers)))

-- where the names of a call begin
abbrev pub base_parts : Base → Bool ⊎ ℕ
base_parts Below = inl false
base_parts Root = inl true
base_parts (Up levels) = inr levels

abbrev pub base_of : Bool ⊎ ℕ → Base
base_of (inl false) = Below
base_of (inl true) = Root
base_of (inr levels) = Up levels

pub base_back : (base : Base) → base_of (base_parts base) ≡ base
base_back Below = refl
base_back Root = refl
base_back (Up levels) = refl

abbrev pub bases : Equality Base
bases = made_of base_parts base_of base_back (sums truths numbers)

abbrev pub calls : Equality Call
calls = made_of (λ call. (call.base, (call.path, call.children))) (λ p. record { base = p.0; path = p.1.0; children = p.1.1 }) (λ _. refl) (pairs bases (pairs (lists names) truths))
