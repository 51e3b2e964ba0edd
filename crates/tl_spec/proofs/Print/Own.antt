-- The attributes of a tag, printed in order, are read as they were.
use Rattle.std.proofs.Common.{◌≡◌, ℕ, List, [], ◌∷◌, ◌++◌, bytes_eq, codes, Option, Some, None, refl, ap, sym, ◌∙◌, append_assoc, append-nil, subst}
use Rattle.std.specs.Prelude.{fold}
use Rattle.std.specs.List.{IsDistinct}
use Rattle.std.specs.Map.{keys_of}
use Rattle.std.proofs.lemmas.Cmp.{nat_list_eq_equiv}
use Rattle.indexmap.proofs.MapLemmas.{absent_before}
use Rattle.tl_spec.specs.Lex.Attribute.{Pair}
use Rattle.tl_spec.specs.Lex.AttributeList.{AreOthers, HasOwnKeys, PlainAttributes, attributes_of, pair_if_some, printed_pairs, with_pair}
use Rattle.tl_spec.proofs.Lex.ByKey.{choose_by_key-other}
use Rattle.tl_spec.proofs.Tree.Pairs.{insert_new}

with_others : List Pair → PlainAttributes
with_others ps = record { others = ps; id = None; class = None }

fold-others : (xs ps qs : List Pair) → IsDistinct bytes_eq (keys_of (xs ++ ps)) → AreOthers (λ key. key) ps → fold with_pair (with_others xs) (ps ++ qs) ≡ fold with_pair (with_others (xs ++ ps)) qs
unfolding with_others
fold-others xs [] qs h o = ap (λ ys. fold with_pair (with_others ys) qs) (sym (append-nil xs))
fold-others xs (p ∷ ps) qs h o =
    let new = absent_before nat_list_eq_equiv xs ps p h in
    let e : with_pair (with_others xs) p ≡ with_others (xs ++ p ∷ []) = choose_by_key-other p.0 _ _ _ o.0 ∙ ap with_others (insert_new bytes_eq xs p.0 p.1 new) in
    let again : (xs ++ p ∷ []) ++ ps ≡ xs ++ p ∷ ps = append_assoc xs (p ∷ []) ps in
    ap (λ a. fold with_pair a (ps ++ qs)) e
    ∙ fold-others (xs ++ p ∷ []) ps qs (subst (λ ys. IsDistinct bytes_eq (keys_of ys)) (sym again) h) o.1
    ∙ ap (λ ys. fold with_pair (with_others ys) qs) again

fold-named : (ps : List Pair) (i c : Option (List ℕ)) → fold with_pair (with_others ps) (pair_if_some (codes "id") i ++ pair_if_some (codes "class") c) ≡ record { others = ps; id = i; class = c }
unfolding with_others
fold-named ps None None = refl
fold-named ps None (Some c) = refl
fold-named ps (Some i) None = refl
fold-named ps (Some i) (Some c) = refl

-- printed in order, attributes are read as they were
pub attributes_of-printed : (a : PlainAttributes) → HasOwnKeys a → attributes_of (printed_pairs a) ≡ a
unfolding with_others
attributes_of-printed a h =
    ap attributes_of (append_assoc a.others (pair_if_some (codes "id") a.id) (pair_if_some (codes "class") a.class))
    ∙ fold-others [] a.others (pair_if_some (codes "id") a.id ++ pair_if_some (codes "class") a.class) h.distinct h.others
    ∙ fold-named a.others a.id a.class
