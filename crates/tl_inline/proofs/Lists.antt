-- Facts of lists, and of the runs of an iterator that is seen as a list.
use Rattle.std.proofs.Common.{◌≡◌, ℕ, List, [], ◌∷◌, ◌++◌, length, ap, refl, arith, Bool, subst, sym, ◌∙◌, append_assoc}
use Rattle.std.specs.List.{AllZip}
use Rattle.std.specs.Map.Iter.{TakesFirst, ShowsInOrder}
use Rattle.std.proofs.iter.runs.Sources.{from_front}
use Rattle.std.proofs.lemmas.List.Elements.{Contains-get_or, Contains-append_right}
use Rattle.tl_spec.specs.Tree.Inline.{InlineVec, with_item}
use Rattle.tl_inline.specs.InlineVec.{ClonesAreEqual}
use Rattle.tl_inline.specs.Inner.ItemStorage.{storage_view, storage_with_item}
use Rattle.tl_inline.specs.declared.inline.vec.storage.ItemStorage.{ItemStorage}
use Rattle.tl_inline.specs.declared.inline.vec.storage.ItemStorage.TheVariants.{Inline, Heap}

module _ {A X : Type 0} (shows : A → X) where
  pub shows_in_order : ShowsInOrder shows
  shows_in_order = from_front (TakesFirst shows) shows (λ s. s) (λ s t h. ap length h.0) (λ s x t h. h)

-- the vector with these fields
abbrev pub same_vec : {X : Type 0} → List X → Bool → InlineVec X
same_vec xs b = record { items = xs; on_heap = b }

module _ {X : Type 0} (clones : X → X → Type 0) where
  -- a list of clones of xs is xs
  pub same_from_clones : (xs ys : List X) → ClonesAreEqual clones xs → AllZip clones xs ys → ys ≡ xs
  same_from_clones [] [] same h = refl
  same_from_clones [] (y ∷ ys) same h = absurd h
  same_from_clones (x ∷ xs) [] same h = absurd h
  same_from_clones (x ∷ xs) (y ∷ ys) same h =
      let first = same x y (Contains-get_or (x ∷ xs) 0 x (omega arith)) h.0 in
      let rest = same_from_clones xs ys (λ a b k. same a b (Contains-append_right (x ∷ []) xs a k)) h.1 in
      λ i. first i ∷ rest i

-- a vector that lies where v does and has clones of its items is v
pub clone_is : {X : Type 0} (clones : X → X → Type 0) (v : InlineVec X) (xs ys : List X) (b : Bool) → same_vec xs b ≡ v
    → ClonesAreEqual clones v.items → AllZip clones xs ys → same_vec ys b ≡ v
clone_is clones v xs ys b was same h =
    let e = same_from_clones clones xs ys (subst (λ l. ClonesAreEqual clones l) (sym (ap (λ w. w.items) was)) same) h in
    ap (λ l. same_vec l b) e ∙ was

-- one turn of a move: the first item of those left goes after those moved
pub moved_item : {X : Type 0} (items done more left rest : List X) (x : X) → done ++ left ≡ items → left ≡ x ∷ rest → more ≡ done ++ x ∷ []
    → more ++ rest ≡ items
moved_item items done more left rest x whole next put =
    ap (λ l. l ++ rest) put ∙ append_assoc done (x ∷ []) rest ∙ ap (λ l. done ++ l) (sym next) ∙ whole

module _ {T : Type 0} {N : ℕ} where
  -- a write of an item in the storage is one in what a contract sees
  pub view_with_item : (h : ItemStorage T N) (i : ℕ) (w : T) → storage_view (storage_with_item h i w) ≡ with_item (storage_view h) i w
  view_with_item (Inline v) i w = refl
  view_with_item (Heap v) i w = refl
