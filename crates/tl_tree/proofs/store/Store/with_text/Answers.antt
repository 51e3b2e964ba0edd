use Rattle.std.proofs.Common.{ap, arith, length, length-append, map, refl, subst, sym, ◌++◌, ◌+◌, ◌∙◌, ◌≡◌}
use Rattle.tl_tree.proofs.OwnText.{attributes-owned, doctypes-owned, tags-owned}
use Rattle.tl_tree.specs.Inner.Lists.{AreBothPlaced, in_list, many_in}
use Rattle.tl_tree.specs.Inner.Within.{key_in, known_in, known_of, number_of, numbered_in}
use Rattle.tl_tree.proofs.store.Store.with_text.Goals as goal

pub invariant_of-result : goal.invariant_of-result
invariant_of-result c =
    let s = c.args.self in
    let page = s.page.now in
    let side = s.side.items in
    let all = c.args.text.items in
    let is : all ≡ page ++ side = c.requires in
    let many : length all ≡ length page + length side = ap length is ∙ length-append page side in
    record {
      short = let own = s.short in omega (arith, own, many);
      attributes_within = λ list. attributes-owned (length page) (length side) 0 (length all) (in_list s.attributes list) refl many (s.attributes_within list);
      keys_placed = subst (λ v. AreBothPlaced (key_in v) s.attributes) (sym is) s.keys_placed;
      tags_within = tags-owned (length page) (length side) 0 (length all) (many_in s.attributes) s.tags.items refl many s.tags_within;
      names_known = subst (λ v. map known_of s.tags.items ≡ map (known_in v) s.tags.items) (sym is) s.names_known;
      names_numbered = subst (λ v. map number_of s.tags.items ≡ map (numbered_in s.names v) s.tags.items) (sym is) s.names_numbered;
      doctypes_within = doctypes-owned (length page) (length side) 0 (length all) s.doctypes.items refl many s.doctypes_within;
      cells_within = rw c.new.ensures.items refl;
    }
