-- The names that elements get one after the other.
use Rattle.std.proofs.Common.{List, None, Option, Some, [], add-one, ap, append_assoc, drop, false, get_or, length, map, refl, subst, sym, true, ℕ, ◌+◌, ◌++◌, ◌<◌, ◌∙◌, ◌∷◌, ◌≡◌}
use Rattle.std.proofs.lemmas.List.{drop_more}
use Rattle.std.specs.Prelude.{slice_get}
use Rattle.tl_tree.specs.Asked.{attributes_at}
use Rattle.tl_tree.specs.Below.{is_filled, text_content}
use Rattle.tl_tree.specs.Rows.{Row}
use Rattle.tl_values.specs.Inner.Names.{AreKept}
use Rattle.tl_values.specs.Keys.{value_at}
use Rattle.tl_values.specs.Names.{unique, with_made}
use Rattle.tl_values.specs.Naming.{named, names_before, names_got, slug, text_name, unique_filled, with_value}
use Rattle.tl_values.specs.declared.names.Names.{Names}

-- one more element
pub one_more : (key : List ℕ) (rows : List Row) (used : List (List ℕ)) (numbers : List ℕ) (i d n : ℕ) (name : Option (List ℕ)) (before after whole : List (ℕ × List ℕ))
    → i < length numbers → get_or numbers i d ≡ n → name ≡ text_name key rows used n → after ≡ before ++ named n name
    → before ++ names_got key rows used (drop i numbers) ≡ whole
    → after ++ names_got key rows (with_made used (text_name key rows used n)) (drop (i + 1) numbers) ≡ whole
one_more key rows used numbers i d n name before after whole lt is-n is-name is-after e =
    let rest : List (ℕ × List ℕ) = names_got key rows (with_made used (text_name key rows used n)) (drop (i + 1) numbers) in
    let opened : names_got key rows used (drop i numbers) ≡ named n (text_name key rows used n) ++ rest =
    ap (names_got key rows used) (drop_more numbers i d lt ∙ ap (λ k. k ∷ drop (i + 1) numbers) is-n) in
    ap (λ xs. xs ++ rest) (is-after ∙ ap (λ o. before ++ named n o) is-name)
    ∙ append_assoc before (named n (text_name key rows used n)) rest
    ∙ ap (λ xs. before ++ xs) (sym opened) ∙ e

-- one more row
pub page_more : (m : Names) (key : List ℕ) (rows : List Row) (n : ℕ) (v : Option (List ℕ)) → v ≡ value_at key (attributes_at rows n)
    → AreKept m (with_value (names_before key rows n) v) → AreKept m (names_before key rows (n + 1))
page_more m key rows n v is k =
    subst (λ own. AreKept m (names_before key rows own)) (sym (add-one n)) (subst (λ own. AreKept m (with_value (names_before key rows n) own)) is k)

pub filled : (name : List ℕ) (b : ℕ) → slice_get name 0 ≡ Some b → is_filled name ≡ true
filled [] b e = absurd (cc)
filled (first ∷ name) b e = refl

pub unfilled : (name : List ℕ) → slice_get name 0 ≡ None → is_filled name ≡ false
unfilled [] e = refl
unfilled (first ∷ name) e = absurd (cc)

pub if_filled : (used : List (List ℕ)) (name : List ℕ) → is_filled name ≡ true → unique_filled used name ≡ unique used name
if_filled used name e = rw e

pub if_unfilled : (used : List (List ℕ)) (name : List ℕ) → is_filled name ≡ false → unique_filled used name ≡ None
if_unfilled used name e = rw e

pub if_valued : (key : List ℕ) (rows : List Row) (used : List (List ℕ)) (number : ℕ) (v : List ℕ) → value_at key (attributes_at rows number) ≡ Some v → text_name key rows used number ≡ None
if_valued key rows used number v e = rw e

pub if_unvalued : (key : List ℕ) (rows : List Row) (used : List (List ℕ)) (number : ℕ) → value_at key (attributes_at rows number) ≡ None
    → text_name key rows used number ≡ unique_filled used (slug (text_content rows number))
if_unvalued key rows used number e = rw e
