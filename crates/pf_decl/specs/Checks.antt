-- Whether the queues of a load fit together, and whether those that rules use are declared (pf.conf(5), QUEUEING).
use Rattle.std.specs.Prelude.{◌≡◌, ℕ, Bool, true, false, ◌&&◌, not, ◌<◌, List, take, Option, Some, None, Result, Ok, Err, is_none, slice_get}
use Rattle.std.specs.List.{list_any}
use Rattle.std.specs.Str.{bytes_eq}
use Rattle.pf_base.specs.declared.fault.FaultKind.TheVariants.{QueueTwice, QueueParent, QueueUnknown}
use Rattle.pf_decl.specs.declared.check.QueueFault.{QueueFault}
use Rattle.pf_decl.specs.declared.check.UsedQueue.{UsedQueue}
use Rattle.pf_decl.specs.declared.form.Queue.{Queue}

-- the same interface, or none
abbrev pub same_iface : Option (List ℕ) → Option (List ℕ) → Bool
same_iface None None = true
same_iface None (Some other) = false
same_iface (Some iface) None = false
same_iface (Some iface) (Some other) = bytes_eq iface other

-- one of these queues has this name
abbrev pub are_named : List Queue → List ℕ → Bool
are_named queues name = list_any (λ (queue : Queue). bytes_eq queue.name name) queues

-- an earlier queue has its name and its interface
abbrev pub is_twice : List Queue → Queue → Bool
is_twice earlier queue = list_any (λ (other : Queue). bytes_eq other.name queue.name && same_iface other.iface queue.iface) earlier

-- it stands neither on an interface nor below a queue, or below one that isn't declared before it
abbrev pub parent_fails : List Queue → Option (List ℕ) → Option (List ℕ) → Bool
parent_fails earlier iface None = is_none iface
parent_fails earlier iface (Some parent) = not (are_named earlier parent)

abbrev pub is_orphan : List Queue → Queue → Bool
is_orphan earlier queue = parent_fails earlier queue.iface queue.parent

-- no queue has its name; other uses don't matter
abbrev pub is_unknown : List Queue → List UsedQueue → UsedQueue → Bool
is_unknown queues earlier used = not (are_named queues used.name)

-- the first item of which a test holds, given the items before it
pub record IsFirst {A : Type 0} (test : List A → A → Bool) (items : List A) (item : A) : Type 0 where
  pub index : ℕ
  pub here : slice_get items index ≡ Some item
  pub holds : test (take index items) item ≡ true
  pub fails : (k : ℕ) (other : A) → k < index → slice_get items k ≡ Some other → test (take k items) other ≡ false

-- no item has the test, given the items before it
pub record HoldsOfNone {A : Type 0} (test : List A → A → Bool) (items : List A) : Type 0 where
  pub fails : (k : ℕ) (other : A) → slice_get items k ≡ Some other → test (take k items) other ≡ false

abbrev pub twice_at : Queue → QueueFault
twice_at queue = record { kind = QueueTwice; place = queue.place }

abbrev pub orphan_at : Queue → QueueFault
orphan_at queue = record { kind = QueueParent; place = queue.place }

abbrev pub unknown_at : UsedQueue → QueueFault
unknown_at used = record { kind = QueueUnknown used.name; place = used.place }

-- how queues and their uses are judged: the first kind of fault decides, then the first queue or use that has it
pub data Judged (queues : List Queue) (used : List UsedQueue) : Result (Unit {0}) QueueFault → Type 0 where
  twice : {queue : Queue} → IsFirst is_twice queues queue → Judged queues used (Err (twice_at queue))
  orphan : {queue : Queue} → HoldsOfNone is_twice queues → IsFirst is_orphan queues queue → Judged queues used (Err (orphan_at queue))
  unknown : {one : UsedQueue} → HoldsOfNone is_twice queues → HoldsOfNone is_orphan queues → IsFirst (is_unknown queues) used one
      → Judged queues used (Err (unknown_at one))
  fine : HoldsOfNone is_twice queues → HoldsOfNone is_orphan queues → HoldsOfNone (is_unknown queues) used → Judged queues used (Ok tt)
