-- Lists of names that are the same in another order.
use Rattle.std.proofs.Common.{Bool, List, ap, codes, false, inl, inr, refl, sym, true, true≢false, ◌++◌, ◌∙◌, ◌≡◌, ◌||◌, ◌∷◌, [], ℕ}
use Rattle.std.proofs.lemmas.Bool.{cases_Bool, false_from_ne_true}
use Rattle.std.specs.List.{list_all}
use Rattle.std.specs.Str.{bytes_eq}
use Rattle.tl_dom_spec.specs.Lawful.{void_names}
use Rattle.tl_html_spec.specs.Balanced.{is_one_of, words}
use Rattle.tl_names.proofs.Numbers.{listed}
use Rattle.tl_names.specs.Elements.{closed_at_once, is_among}
use Rattle.tl_names.specs.TagSets.{names_in}
use Rattle.tl_names.specs.declared.class.Class.TheVariants.{Verbatim, Void}

-- names of which each is among the others
same_names : (xs ys : List (List ℕ)) (n : List ℕ) → list_all (is_among ys) xs ≡ true → list_all (is_among xs) ys ≡ true → is_among xs n ≡ is_among ys n
same_names xs ys n there back = elim (cases_Bool (is_among xs n)) [
  | inl m ↦ m ∙ sym (listed xs ys n there m)
  | inr o ↦ o ∙ sym (false_from_ne_true (is_among ys n) (λ m. true≢false (sym (listed ys xs n back m) ∙ o)))
]

among-append : (xs ys : List (List ℕ)) (n : List ℕ) → is_among (xs ++ ys) n ≡ is_among xs n || is_among ys n
among-append [] ys n = refl
among-append (x ∷ xs) ys n =
    ap (λ b. bytes_eq n x || b) (among-append xs ys n) ∙ here (bytes_eq n x) (is_among xs n) (is_among ys n)
  where
    here : (a b c : Bool) → a || (b || c) ≡ (a || b) || c
    here true b c = refl
    here false b c = refl

pub void-listed : (n : List ℕ) → (is_among (names_in Void) n || is_among closed_at_once n) ≡ is_one_of void_names n
unfolding names_in
void-listed n =
    sym (among-append (names_in Void) closed_at_once n)
    ∙ same_names (names_in Void ++ closed_at_once) (words void_names) n refl refl

abbrev pub literal_names : List ℕ
literal_names = codes "style script xmp iframe noembed noframes plaintext"

pub literal-listed : (n : List ℕ) → is_among (names_in Verbatim) n ≡ is_one_of literal_names n
unfolding names_in
literal-listed n = same_names (names_in Verbatim) (words literal_names) n refl refl
