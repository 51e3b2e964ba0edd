-- Lists of attributes, one of which may have got one more.
use Rattle.std.proofs.Common.{Bool, IsSome, IsTrue, List, None, Option, Some, Vec, [], ap, cond, false, inl, inr, refl, rules, subst, sym, true, ℕ, ◌++◌, ◌∙◌, ◌∷◌, ◌≡◌, ◌≤◌}
use Rattle.std.proofs.lemmas.Bool.{and_parts, cases_Bool, false≢true, or_from}
use Rattle.std.proofs.lemmas.Slice.Eq.{bytes_eq-Decides}
use Rattle.std.specs.List.{list_all, list_any}
use Rattle.std.specs.Option.{is_some}
use Rattle.std.specs.Str.{bytes_eq}
use Rattle.std.specs.declared.alloc.Global.{Global}
use Rattle.tl_tree.proofs.Listed.{all-push, all-weaker, begins-longer, begins-of, begins-refl}
use Rattle.tl_tree.specs.Inner.Lists.{AreBothPlaced, AreOneMore, in_list, many_in}
use Rattle.tl_tree.specs.Inner.MetNames.{number_among}
use Rattle.tl_tree.specs.Inner.Placing.{has_place, is_one_more}
use Rattle.tl_tree.specs.Inner.Store.{Begins}
use Rattle.tl_tree.specs.declared.attribute_lists.AttributeLists.{AttributeLists}
use Rattle.tl_tree.specs.declared.entries.AttributeEntry.{AttributeEntry}
use Rattle.tl_tree.specs.declared.entries.AttributeList.{AttributeList}
use Rattle.tl_tree.specs.declared.entries.AttributeList.TheVariants.{Body, Html, Tags}

pub pushed-one : (r : Bool) (a : AttributeEntry) (old new : List AttributeEntry) → new ≡ cond r (old ++ a ∷ []) old → is_one_more a old new
pushed-one true a old new e = inr e
pushed-one false a old new e = inl e

one-more : (old new : AttributeLists) (a : AttributeEntry) → AreOneMore old new a → (list : AttributeList) → is_one_more a (in_list old list) (in_list new list)
one-more old new a more Tags = more.tags
one-more old new a more Html = more.html
one-more old new a more Body = more.body

pub one-more-begins : (old new : List AttributeEntry) (a : AttributeEntry) → is_one_more a old new → Begins old new
one-more-begins old new a (inl same) = subst (λ xs. Begins old xs) (sym same) (begins-refl old)
one-more-begins old new a (inr added) = begins-of old new (a ∷ []) added

pub one-more-longer : (old new : AttributeLists) (a : AttributeEntry) → AreOneMore old new a → (list : AttributeList) → many_in old list ≤ many_in new list
one-more-longer old new a more list =
    let own = in_list old list in
    begins-longer own (in_list new list) (one-more-begins own (in_list new list) a (one-more old new a more list))

one-more-all : (test : AttributeEntry → Bool) (old new : List AttributeEntry) (a : AttributeEntry) → is_one_more a old new → IsTrue (test a) → IsTrue (list_all test old) → IsTrue (list_all test new)
one-more-all test old new a (inl same) one all = subst (λ xs. IsTrue (list_all test xs)) (sym same) all
one-more-all test old new a (inr added) one all =
    subst (λ xs. IsTrue (list_all test xs)) (sym added) (all-push test old a all one)

pub one-more-within : (test : AttributeEntry → Bool) (old new : AttributeLists) (a : AttributeEntry) → AreOneMore old new a → (list : AttributeList) → IsTrue (test a) → IsTrue (list_all test (in_list old list)) → IsTrue (list_all test (in_list new list))
one-more-within test old new a more list = one-more-all test (in_list old list) (in_list new list) a (one-more old new a more list)

-- Keys and their places

abbrev Places : Type 0
Places = List (Vec ℕ Global × ℕ)

pub some-is : (o : Option ℕ) → is_some o ≡ true → IsSome o
some-is None h = absurd (false≢true h)
some-is (Some n) h = search rules

pub is-some : (o : Option ℕ) → IsSome o → is_some o ≡ true
is-some None h = absurd (search (rules, h))
is-some (Some n) h = refl

-- the keys that have places keep them
pub placed-kept : (old new : Places) (key_of : AttributeEntry → List ℕ) → ((key : List ℕ) → IsSome (number_among old key) → IsSome (number_among new key)) → (xs : List AttributeEntry) → IsTrue (list_all (has_place old key_of) xs) → IsTrue (list_all (has_place new key_of) xs)
placed-kept old new key_of kept xs all =
    all-weaker (has_place old key_of) (has_place new key_of)
    (λ a h. is-some (number_among new (key_of a)) (kept (key_of a) (some-is (number_among old (key_of a)) h)))
    xs all

-- and one more has a place
pub placed-pushed : (r : Bool) (old new : Places) (key_of : AttributeEntry → List ℕ) (a : AttributeEntry) (key : List ℕ) (place : ℕ) → key_of a ≡ key → number_among new key ≡ Some place → ((other : List ℕ) → IsSome (number_among old other) → IsSome (number_among new other)) → (xs ys : List AttributeEntry) → ys ≡ cond r (xs ++ a ∷ []) xs → IsTrue (list_all (has_place old key_of) xs) → IsTrue (list_all (has_place new key_of) ys)
placed-pushed r old new key_of a key place own at kept xs ys e all =
    one-more-all (has_place new key_of) xs ys a (pushed-one r a xs ys e)
    (ap (λ (k : List ℕ). is_some (number_among new k)) own ∙ ap is_some at) (placed-kept old new key_of kept xs all)

-- where there are no attributes
pub none-placed : (lists : AttributeLists) (key_of : AttributeEntry → List ℕ) → ((list : AttributeList) → in_list lists list ≡ []) → AreBothPlaced key_of lists
none-placed lists key_of none = record {
  html = subst (λ xs. IsTrue (list_all (has_place lists.html_places.entries key_of) xs)) (sym (none Html)) refl;
  body = subst (λ xs. IsTrue (list_all (has_place lists.body_places.entries key_of) xs)) (sym (none Body)) refl;
}

-- a key without a place is none of theirs
pub unplaced : (places : Places) (key_of : AttributeEntry → List ℕ) (key : List ℕ) → number_among places key ≡ None → (xs : List AttributeEntry) → IsTrue (list_all (has_place places key_of) xs) → list_any (λ a. bytes_eq (key_of a) key) xs ≡ false
unplaced places key_of key none [] all = refl
unplaced places key_of key none (x ∷ xs) all =
    let p = and_parts (has_place places key_of x) (list_all (has_place places key_of) xs) all in
    or_from (bytes_eq (key_of x) key) (list_any (λ a. bytes_eq (key_of a) key) xs)
    (elim (cases_Bool (bytes_eq (key_of x) key)) [
      | inl same ↦ absurd (false≢true (sym (ap is_some (ap (number_among places) ((bytes_eq-Decides (key_of x) key).0 same) ∙ none)) ∙ p.0))
      | inr other ↦ other
    ])
    (unplaced places key_of key none xs p.1)
