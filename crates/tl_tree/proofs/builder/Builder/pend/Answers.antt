use Rattle.std.proofs.Common.{List, ap, refl, ◌++◌, ◌∙◌, ℕ}
use Rattle.tl_tree.specs.Inner.Builders.{builder_of, token_of}
use Rattle.tl_tree.proofs.builder.Builder.pend.Goals as goal

pub returns-in_err-extend_from_slice-clause-token :
    goal.returns-in_err-extend_from_slice-clause-token
unfolding token_of
returns-in_err-extend_from_slice-clause-token c = refl

pub returns-clause-ok : goal.returns-clause-ok
unfolding builder_of
returns-clause-ok c =
    let b = builder_of c.args.self.now in
    ap (λ (own : List ℕ). record b { pending = own })
    (c.in_ok-extend_from_slice.ensures.items ∙ ap (λ own. b.pending ++ own) c.bytes-bytes.ensures)

pub returns-clause-token : goal.returns-clause-token
unfolding token_of
returns-clause-token c = refl
