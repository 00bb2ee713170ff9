use Rattle.std.proofs.Common.{ℕ, List, [], ◌∷◌, ◌++◌, map, sym, ap, ◌∙◌}
use Rattle.std.specs.List.{filter}
use Rattle.std.specs.FinMap as finite
use Rattle.std.specs.Map.Iter.{deref_pair}
use Rattle.std.proofs.lemmas.List.{map-append}
use Rattle.pf_shelf.specs.declared.decl.Shelved.{Shelved}
use Rattle.pf_shelf.specs.Shelf.{Tables, name_cmp}
use Rattle.pf_shelf.specs.Renewed.{persists, put_kept}
use Rattle.pf_shelf.proofs.Tables.{entries_none, kept_more}
use Rattle.pf_shelf.proofs.shelf.Shelf.keep_on.Goals as goal

pub loop-name-init : goal.loop-name-init
loop-name-init c = entries_none c.args.shelf.now

pub loop-name-preserved : goal.loop-name-preserved
loop-name-preserved c =
    c.in_ok-keep.ensures
    ∙ ap (λ (t : Tables). put_kept t c.in-Some.name.now c.in-Some.shelved.now) c.loop-name.invariant
    ∙ kept_more (finite.entries c.args.shelf.now) (map deref_pair c.loop-name.yielded) c.in-Some.name.now c.in-Some.shelved.now
    ∙ ap (λ (es : List (List ℕ × Shelved)). finite.from_entries {R = name_cmp} (finite.entries c.args.shelf.now ++ filter persists es)) (sym (map-append deref_pair c.loop-name.yielded ((c.in-Some.name, c.in-Some.shelved) ∷ [])))
