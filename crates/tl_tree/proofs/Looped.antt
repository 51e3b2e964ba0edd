-- Entries of tags, one after the other.
use Rattle.std.proofs.Common.{Bool, IsTrue, List, add-one, ap, append-nil, arith, cond, false, filter, get_or, length, map, nat_le, refl, subst, suc, sym, take, true, zero, ℕ, [], ◌++◌, ◌+◌, ◌<◌, ◌≤◌, ◌∙◌, ◌≡◌, ◌∷◌, ◌||◌, ◌&&◌}
use Rattle.std.proofs.lemmas.Bool.{and_from, and_parts, le-leb, or_from, or_parts}
use Rattle.std.proofs.lemmas.List.Elements.{filter_more}
use Rattle.std.specs.List.{list_all, list_any}
use Rattle.tl_tree.proofs.AlikeTags.{entries-within}
use Rattle.tl_tree.proofs.Grown.{list-begins}
use Rattle.tl_tree.proofs.Listed.{begins-longer}
use Rattle.tl_tree.proofs.Written.{all-at}
use Rattle.tl_tree.specs.Inner.Store.{Grows, entries_of, is_attribute, is_span, is_tag, list_in}
use Rattle.tl_tree.specs.declared.entries.AttributeEntry.{AttributeEntry}
use Rattle.tl_tree.specs.declared.entries.AttributeList.{AttributeList}
use Rattle.tl_tree.specs.declared.entries.TagEntry.{TagEntry}
use Rattle.tl_tree.specs.declared.span.Span.{Span}
use Rattle.tl_tree.specs.declared.store.Store.{Store}

-- each of a tag has its parts in the store
pub entry-within : (s : Store) (t : TagEntry) (xs : List AttributeEntry) (i : ℕ) (d : AttributeEntry) → xs ≡ entries_of s t → i < length xs → IsTrue (is_attribute s (get_or xs i d))
entry-within s t xs i d is h =
    all-at (is_attribute s) xs i (get_or xs i d) d refl h (subst (λ v. IsTrue (list_all (is_attribute s) v)) (sym is) (entries-within s t))

-- one more that passes
pub filter-put : {A : Type 0} (test : A → Bool) (found xs : List A) (i : ℕ) (d : A) → i < length xs → found ≡ filter test (take i xs) → test (get_or xs i d) ≡ true → found ++ get_or xs i d ∷ [] ≡ filter test (take (i + 1) xs)
filter-put test found xs i d h is passes =
    let own = get_or xs i d in
    ap (λ v. v ++ own ∷ []) is
    ∙ sym (filter_more test xs i d h ∙ ap (λ b. filter test (take i xs) ++ cond b (own ∷ []) []) passes)

-- one more that doesn't
pub filter-left : {A : Type 0} (test : A → Bool) (found xs : List A) (i : ℕ) (d : A) → i < length xs → found ≡ filter test (take i xs) → test (get_or xs i d) ≡ false → found ≡ filter test (take (i + 1) xs)
filter-left test found xs i d h is fails =
    let own = get_or xs i d in
    is
    ∙ sym (filter_more test xs i d h ∙ ap (λ b. filter test (take i xs) ++ cond b (own ∷ []) []) fails ∙ append-nil (filter test (take i xs)))

missed : {A B : Type 0} (f : B → Bool) (g : A → B) (xs : List A) (i : ℕ) (d : A) → i < length xs → list_any f (map g (take i xs)) ≡ false → f (g (get_or xs i d)) ≡ false → list_any f (map g (take (suc i) xs)) ≡ false
missed f g [] i d h front own = absurd (omega arith)
missed f g (y ∷ xs) zero d h front own = ap (λ b. b || false) own
missed f g (y ∷ xs) (suc i) d h front own =
    let p = or_parts (f (g y)) (list_any f (map g (take i xs))) front in
    or_from (f (g y)) (list_any f (map g (take (suc i) xs))) p.0 (missed f g xs i d (omega arith) p.1 own)

-- none in a front, and none in one more
pub any-missed : {A B : Type 0} (f : B → Bool) (g : A → B) (xs : List A) (i : ℕ) (d : A) → i < length xs → list_any f (map g (take i xs)) ≡ false → f (g (get_or xs i d)) ≡ false → list_any f (map g (take (i + 1) xs)) ≡ false
any-missed f g xs i d h front own =
    subst (λ n. list_any f (map g (take n xs)) ≡ false) (sym (add-one i)) (missed f g xs i d h front own)

-- Tags in a store

pub name-there : (s : Store) (t : TagEntry) → IsTrue (is_tag s t) → IsTrue (is_span s t.name)
name-there s t h =
    (and_parts (is_span s t.name) (nat_le (t.first_attribute + t.attribute_count) (length (list_in s t.list))) h).0

pub tag-there : (s : Store) (name : Span) (first count : ℕ) (list : AttributeList) → IsTrue (is_span s name) → first + count ≤ length (list_in s list) → IsTrue (is_span s name && nat_le (first + count) (length (list_in s list)))
tag-there s name first count list there end =
    and_from (is_span s name) (nat_le (first + count) (length (list_in s list))) there (le-leb (first + count) (length (list_in s list)) end)

pub list-longer : (s t : Store) → Grows s t → (list : AttributeList) → length (list_in s list) ≤ length (list_in t list)
list-longer s t g list = begins-longer (list_in s list) (list_in t list) (list-begins s t g list)
