use Rattle.std.proofs.Common.{Some, ap, false, nat_eq, sym, true, ◌∙◌, ◌≡◌}
use Rattle.std.proofs.lemmas.Bool.{not-true}
use Rattle.tl_names.specs.declared.element_name.ElementName.{ElementName}
use Rattle.tl_tree.proofs.NamesMet.{found-among, not-false, other-number, own-number}
use Rattle.tl_tree.proofs.met_names.MetNames.lowered_number.Goals as goal

pub returns-then-ne : goal.returns-then-ne
returns-then-ne c =
    let own : nat_eq c.of-known.result.number 159 ≡ false = not-true (nat_eq c.of-known.result.number 159) (sym c.ne.ensures ∙ c.if-ne.true) in
    ap Some (c.number.ensures ∙ ap (λ (k : ElementName). k.number) c.of-known.ensures)
    ∙ sym (own-number c.args.self.now c.args.name.now (ap (λ (k : ElementName). nat_eq k.number 159) (sym c.of-known.ensures) ∙ own))

pub returns : goal.returns
returns c =
    let other : nat_eq c.of-known.result.number 159 ≡ true = not-false (nat_eq c.of-known.result.number 159) (sym c.ne.ensures ∙ c.if-ne.false) in
    c.copied.ensures
    ∙ (c.get.ensures.value
    ∙ (found-among c.args.self.now.numbers.entries c.args.name.now
    ∙ sym (other-number c.args.self.now c.args.name.now (ap (λ (k : ElementName). nat_eq k.number 159) (sym c.of-known.ensures) ∙ other))))
