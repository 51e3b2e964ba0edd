use Rattle.std.proofs.Common.{rules, Err, List, subst, ℕ, ◌≡◌}
use Rattle.tl_patch_edit.specs.Comments.{AreCommentsRefused}
use Rattle.tl_patch_select.proofs.Told.{nodes_kept}
use Rattle.tl_patch_select.proofs.uncommented.uncomment_nodes.Goals as goal

pub returns-in_err-bytes-clause-refused : goal.returns-in_err-bytes-clause-refused
returns-in_err-bytes-clause-refused c =
    let page : List ℕ = c.args.page.now in
    let why = c.in_err-bytes.field-0.0 in
    let is : c.from_residual-in_err-bytes.result ≡ Err why = search rules in
    rw is (nodes_kept c.args.numbers.now c.args.tree.now page why (record {
      places = c.in_ok-places.places.items;
      are_places = c.in_ok-places.ensures;
      refused = subst (λ (ps : List ℕ). AreCommentsRefused ps page why) c.as_slice.ensures.value c.in_err-bytes.ensures.refused;
    }))
