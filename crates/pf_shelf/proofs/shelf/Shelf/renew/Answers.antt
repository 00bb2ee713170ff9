use Rattle.std.proofs.Common.{ℕ, List, [], ◌∷◌, ◌++◌, map, take, sym, ap, ◌∙◌}
use Rattle.std.specs.List.{filter}
use Rattle.std.specs.FinMap as finite
use Rattle.std.proofs.lemmas.List.{map-append, take_all}
use Rattle.pf_table.specs.Pushed.{more_items}
use Rattle.pf_shelf.specs.declared.decl.Shelved.{Shelved}
use Rattle.pf_shelf.specs.declared.decl.TableDecl.{TableDecl}
use Rattle.pf_shelf.specs.Shelf.{Tables, name_cmp}
use Rattle.pf_shelf.specs.Renewed.{declared, persists, put_where_new}
use Rattle.pf_shelf.proofs.Tables.{from_front, one_more}
use Rattle.pf_shelf.proofs.shelf.Shelf.renew.Goals as goal

pub loop-decl-preserved : goal.loop-decl-preserved
loop-decl-preserved c =
    let front = take c.loop-decl.decl-index c.args.decls.now in
    let decl = c.decl-item.result in
    c.in_ok-put.ensures
    ∙ ap (λ (v : Shelved). put_where_new c.loop-decl.shelf decl.name v) c.in_ok-shelved.ensures
    ∙ ap (λ (t : Tables). put_where_new t decl.name (declared c.args.self.now decl).1) c.loop-decl.invariant
    ∙ one_more (map (declared c.args.self.now) front) decl.name (declared c.args.self.now decl).1
    ∙ ap (λ (es : List (List ℕ × Shelved)). finite.from_entries {R = name_cmp} es)
    (sym (ap (map (declared c.args.self.now)) (more_items c.args.decls.now c.loop-decl.decl-index decl c.loop-decl-test.true c.decl-item.is) ∙ map-append (declared c.args.self.now) front (decl ∷ [])))

pub returns : goal.returns
returns c =
    let kept = filter persists (finite.entries c.args.self.now) in
    c.in_ok-keep_on.ensures
    ∙ ap (λ (t : Tables). finite.from_entries {R = name_cmp} (finite.entries t ++ kept))
    (c.loop-decl.invariant ∙ ap (λ (ds : List TableDecl). finite.from_entries {R = name_cmp} (map (declared c.args.self.now) ds)) (take_all c.loop-decl.decl-index c.args.decls.now c.loop-decl-test.false))
    ∙ from_front (map (declared c.args.self.now) c.args.decls.now) kept
