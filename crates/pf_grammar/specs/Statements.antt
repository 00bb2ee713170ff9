-- Rules, antispoof and load anchor (pf.conf(5), GRAMMAR, `pf-rule`, `antispoof-rule`, `anchor-rule`, `load-anchor`).
use Rattle.std.specs.Prelude.{ℕ, Bool, true, false, List, Option, Some, None, map, codes}
use Rattle.pf_parts.specs.declared.matching.IfTest.{IfTest}
use Rattle.pf_syntax.specs.Symbols.{is_end}
use Rattle.pf_syntax.specs.Grammar.{Grammar, ◌>>=◌, give, word, on_word, until}
use Rattle.pf_syntax.specs.Words.{keyword, name, refuse}
use Rattle.pf_syntax.specs.Lists.{list_of}
use Rattle.pf_rule.specs.Opening.{no_params}
use Rattle.pf_form.specs.declared.form.Draft.{Draft}
use Rattle.pf_form.specs.declared.form.Head.{Head}
use Rattle.pf_form.specs.declared.form.Head.TheVariants as heads
use Rattle.pf_grammar.specs.declared.keyword.HeadWord.{HeadWord}
use Rattle.pf_grammar.specs.declared.keyword.HeadWord.TheVariants.{Pass, Match, Block, Anchor, Antispoof, Load}
use Rattle.pf_form.specs.Blank.{blank, blank_form, with_form}
use Rattle.pf_grammar.specs.Heads.{anchor_head, block_kind, head_words}
use Rattle.pf_form.specs.Log.{logged}
use Rattle.pf_grammar.specs.Options.{option}
use Rattle.pf_form.specs.Tests.{direction, family, hosts, ifaces, interface, protos}

-- `[dir] [logq] [on] [family] [proto] [hosts]`
unfoldable pub rule_front : Head → Grammar Draft
rule_front head = do
  way ← direction
  log ← logged
  on ← ifaces
  inet ← family
  proto ← protos
  sides ← hosts
  give (with_form (blank head) (record (blank_form head) {
    direction = way;
    quick = log.quick;
    params = record no_params { log = log.log };
    ifaces = on;
    family = inet;
    protos = proto;
    sources = sides.sources.hosts;
    source_ports = sides.sources.ports;
    targets = sides.targets.hosts;
    target_ports = sides.targets.ports;
  }))

-- `[dir] [logq] [on] [family] [proto] [hosts] { opt }` behind a head
unfoldable pub rule : Head → Grammar Draft
rule head = do
  front ← rule_front head
  until is_end option front

abbrev pub on_interface : List ℕ → IfTest
on_interface name = interface name false

-- `["label" NAME]`
unfoldable pub label : Grammar (Option (List ℕ))
label = on_word (codes "label") (do
  text ← name
  give (Some text)) (give None)

-- `list of NAME`, as interfaces
abbrev pub names_for : Grammar (List IfTest)
names_for = do
  names ← list_of name
  give (map on_interface names)

-- `[logq] "for" list of NAME [family] ["label" NAME]` behind `antispoof`
unfoldable pub antispoof : Grammar Draft
antispoof = do
  log ← logged
  for ← word (codes "for")
  on ← names_for
  inet ← family
  text ← label
  give (with_form (blank heads.Antispoof) (record (blank_form heads.Antispoof) {
    quick = log.quick;
    params = record no_params { log = log.log };
    ifaces = on;
    family = inet;
    label = text;
  }))

-- `"anchor" NAME "from" NAME` behind `load`
unfoldable pub load_anchor : Grammar Draft
load_anchor = do
  anchor ← word (codes "anchor")
  text ← name
  source ← word (codes "from")
  file ← name
  give (blank (heads.LoadAnchor text file))

-- `[NAME]` and the rest of a rule behind `anchor`
unfoldable pub anchor : Bool → Grammar Draft
anchor body = do
  head ← anchor_head body
  rule head

-- `["drop" | "return" ..]` and the rest of a rule behind `block`
unfoldable pub block : Grammar Draft
block = do
  kind ← block_kind
  rule (heads.Block kind)

-- a statement without a body, behind its first word
abbrev pub plain_statement : HeadWord → Grammar Draft
plain_statement Pass = rule heads.Pass
plain_statement Match = rule heads.Match
plain_statement Block = block
plain_statement Anchor = anchor false
plain_statement Antispoof = antispoof
plain_statement Load = load_anchor

-- only an anchor statement has a body
abbrev pub anchor_statement : HeadWord → Grammar Draft
anchor_statement Pass = refuse
anchor_statement Match = refuse
anchor_statement Block = refuse
anchor_statement Anchor = anchor true
anchor_statement Antispoof = refuse
anchor_statement Load = refuse

abbrev pub statement_behind : Bool → HeadWord → Grammar Draft
statement_behind true word = anchor_statement word
statement_behind false word = plain_statement word

-- a statement, which has a body or not
unfoldable pub statement : Bool → Grammar Draft
statement body = do
  word ← keyword head_words
  statement_behind body word
