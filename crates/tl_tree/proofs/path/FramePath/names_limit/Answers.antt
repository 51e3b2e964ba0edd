use Rattle.std.proofs.Common.{IsTrue, List, ap, arith, get_or, length, subst, sym, take, ◌∙◌, ◌≡◌, [], ℕ, refl, suc, true, ◌+◌, ◌++◌, ◌<◌, ◌≤◌, ◌∷◌}
use Rattle.std.proofs.Math.Seq.{take-suc}
use Rattle.std.proofs.lemmas.List.{get_or-map, length-map, take_all}
use Rattle.tl_html_spec.specs.Balanced.{words}
use Rattle.tl_names.specs.ElementNames.{element_names, name_of}
use Rattle.tl_names.specs.Elements.{is_among}
use Rattle.tl_names.specs.declared.element_name.ElementName.{ElementName}
use Rattle.tl_tree.proofs.NumberedNames.{each-listed}
use Rattle.tl_tree.proofs.Skipped.{is_called, none-called, none-called-none, none-more}
use Rattle.tl_tree.proofs.Written.{all-at}
use Rattle.tl_tree.specs.Inner.Limits.{none_from}
use Rattle.tl_tree.specs.Inner.NameLists.{list_of}
use Rattle.tl_tree.proofs.path.FramePath.names_limit.Goals as goal

pub loop-name-init : goal.loop-name-init
loop-name-init c = record { bound = omega arith; skips = none-called-none c.args.self.now 0 }

pub loop-name-preserved : goal.loop-name-preserved
loop-name-preserved c =
    let p = c.args.self.now in
    let all = words (list_of c.args.names) in
    let i = c.loop-name.name-index in
    let own = get_or all i [] in
    let many = length-map all name_of in
    let within : i < length all = omega (arith, c.loop-name-test.true, ap length c.members-name-items.ensures) in
    let greater = c.max-limit.ensures in
    let fits = c.known_limit.ensures.within in
    let so_far = c.loop-name.invariant.bound in
    let listed : is_among element_names own ≡ true = all-at (is_among element_names) all i own [] refl within (each-listed c.args.names) in
    let none : ElementName = record { number = 0 } in
    let named : get_or c.members-name-items.result.now i none ≡ name_of own = ap (λ (names : List ElementName). get_or names i none) c.members-name-items.ensures ∙ get_or-map name_of all i [] none within in
    let same : i + 1 ≡ suc i = omega arith in
    let next : take (i + 1) all ≡ take i all ++ own ∷ [] = ap (λ (k : ℕ). take k all) same ∙ take-suc all i [] within in
    record {
      bound = omega arith;
      skips =
          subst (λ (names : List (List ℕ)). IsTrue (none_from (is_called names) p c.max-limit.result)) (sym next)
          (none-more (take i all) own p c.loop-name.limit c.known_limit.result c.max-limit.result (omega arith) (omega arith) c.loop-name.invariant.skips (c.known_limit.ensures.skips own listed named));
    }

pub returns-clause-skips : goal.returns-clause-skips
returns-clause-skips c =
    let p = c.args.self.now in
    let text = list_of c.args.names in
    let all = words text in
    let many = length-map all name_of in
    let done : length all ≤ c.loop-name.name-index = omega (arith, c.loop-name-test.false, ap length c.members-name-items.ensures) in
    none-called text p c.loop-name.limit
    (subst (λ (names : List (List ℕ)). IsTrue (none_from (is_called names) p c.loop-name.limit)) (take_all c.loop-name.name-index all done) c.loop-name.invariant.skips)
