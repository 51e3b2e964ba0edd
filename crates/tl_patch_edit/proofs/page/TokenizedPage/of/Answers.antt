use Rattle.tl_patch_edit.proofs.page.TokenizedPage.of.Goals as goal

pub invariant_of-own : goal.invariant_of-own
invariant_of-own c = record { of_page = ∣ c.in_ok-found.ensures.tokens ∣₁; up_to_tail = c.in_ok-found.ensures.elements }
