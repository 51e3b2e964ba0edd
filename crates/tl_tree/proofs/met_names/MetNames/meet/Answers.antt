use Rattle.std.proofs.Common.{Some, ap, false, nat_eq, sym, ◌∙◌, ◌≡◌}
use Rattle.std.proofs.lemmas.Bool.{not-true}
use Rattle.tl_tree.proofs.NumberedNames.{known-among, known-number}
use Rattle.tl_tree.proofs.met_names.MetNames.meet.Goals as goal

pub returns-then-ne-clause-own : goal.returns-then-ne-clause-own
returns-then-ne-clause-own c =
    let name = c.args.name.now in
    let own : nat_eq c.args.known.number 159 ≡ false = not-true (nat_eq c.args.known.number 159) (sym c.ne.ensures ∙ c.if-ne.true) in
    let listed = known-among c.args.known name c.requires own in
    known-number c.args.self.now name listed ∙ ap Some (sym (c.known_number.ensures name listed c.requires))
