-- The texts of the top nodes of a document just read, each by a walk of its own, are those of one walk.
use Rattle.std.proofs.Common.{◌≡◌, ℕ, zero, suc, ◌==◌, Bool, true, false, List, [], ◌∷◌, ◌++◌, length, map, slice_get, Option, Some, None, Result, Ok, Err, refl, sym, ◌∙◌, ap, ap₂, append-nil}
use Rattle.std.specs.Option.{option_map_or}
use Rattle.std.specs.Str.Lossy.{utf8_lossy}
use Rattle.std.proofs.lemmas.Bool.{or_from, or_parts}
use Rattle.tl_spec.specs.Tree.Document.{Node, Tag, Raw, Comment, document}
use Rattle.tl_spec.specs.Print.Text.{document_text, inner_text, text_of}
use Rattle.tl_spec.specs.Walk.{TreeFault, Walk, Dangling, walk_result, end, all_tags, first_fault, handle_walk, meets_comment, meets_tag, meets_text, earlier_fault, row_walk, stands_on, trees, fault_or, walk, walk_within}
use Rattle.tl_spec.proofs.Tree.Order.{document-faultless}
use Rattle.tl_spec.proofs.Walk.Walks.{walk-step}
use Rattle.tl_page.specs.Outcome.{Outcome, followed_by, joined, outcome_of, success}
use Rattle.tl_program.specs.Output.{text_at, texts_of}

-- the first path holds no handle that the second doesn't
abbrev IsWithin : List ℕ → List ℕ → Type 0
IsWithin q path = (g : ℕ) → stands_on path g ≡ false → stands_on q g ≡ false

IsWithin-below : (q path : List ℕ) (h : ℕ) → IsWithin q path → IsWithin (h ∷ q) (h ∷ path)
IsWithin-below q path h within g off =
    let parts = or_parts (h == g) (stands_on path g) off in
    or_from (h == g) (stands_on q g) parts.0 (within g parts.1)

faultless-below : (a b : Option TreeFault) → earlier_fault a b ≡ None → (a ≡ None) × (b ≡ None)
faultless-below None b e = (refl, e)
faultless-below (Some x) b e = absurd (cc)

module _ (nodes : List Node) where
  -- one handle, whose walk met no fault, on another path
  handle-same : (f g : List ℕ → Walk) (h : ℕ) (more later : Walk) (b c : Bool) (o : Option Node)
      → (b ≡ false → c ≡ false)
      → ((cs : List ℕ) → first_fault (f cs) ≡ None → g cs ≡ f cs)
      → (first_fault more ≡ None → later ≡ more)
      → first_fault (handle_walk all_tags nodes f h more b o) ≡ None
      → handle_walk all_tags nodes g h later c o ≡ handle_walk all_tags nodes f h more b o
  handle-same f g h more later b c None off below after e = absurd (cc)
  handle-same f g h more later true c (Some x) off below after e = absurd (cc)
  handle-same f g h more later false true (Some x) off below after e = absurd (let no : true ≡ false = off refl in cc)
  handle-same f g h more later false false (Some (Raw u)) off below after e = ap (meets_text h u) (after e)
  handle-same f g h more later false false (Some (Comment u)) off below after e = ap (meets_comment h u) (after e)
  handle-same f g h more later false false (Some (Tag own)) off below after e =
      let parts = faultless-below (first_fault (f own.children.items)) (first_fault more) e in
      ap₂ (meets_tag h own) (below own.children.items parts.0) (after parts.1)

  -- handles in a row, on a path within the other
  row-same : (f : List ℕ → List ℕ → Walk)
      → ((q path cs : List ℕ) → IsWithin q path → first_fault (f path cs) ≡ None → f q cs ≡ f path cs)
      → (q path hs : List ℕ) → IsWithin q path → first_fault (row_walk all_tags nodes f path hs) ≡ None
      → row_walk all_tags nodes f q hs ≡ row_walk all_tags nodes f path hs
  row-same f below q path [] within e = refl
  row-same f below q path (h ∷ hs) within e =
      handle-same (f (h ∷ path)) (f (h ∷ q)) h (row_walk all_tags nodes f path hs) (row_walk all_tags nodes f q hs)
      (stands_on path h) (stands_on q h) (slice_get nodes h) (within h)
      (λ cs. below (h ∷ q) (h ∷ path) cs (IsWithin-below q path h within))
      (row-same f below q path hs within) e

  within-same : (n : ℕ) (q path hs : List ℕ) → IsWithin q path → first_fault (walk_within all_tags nodes n path hs) ≡ None
      → walk_within all_tags nodes n q hs ≡ walk_within all_tags nodes n path hs
  within-same zero = row-same (λ _ _. end) (λ q path cs _ _. refl)
  within-same (suc n) = row-same (walk_within all_tags nodes n) (within-same n)

  -- the text of one node, and what is joined after it
  one-joined : (h : ℕ) (o : Option Node) (more : Walk) (later : List (Outcome (List ℕ)))
      → (first_fault more ≡ None → joined later ≡ success (text_of (trees more)))
      → first_fault (handle_walk all_tags nodes (walk all_tags nodes (h ∷ [])) h more false o) ≡ None
      → joined (outcome_of (option_map_or (λ node. inner_text nodes node) o (Err (Dangling h))) ∷ later)
      ≡ success (text_of (trees (handle_walk all_tags nodes (walk all_tags nodes (h ∷ [])) h more false o)))
  one-joined h None more later after e = absurd (cc)
  one-joined h (Some (Raw u)) more later after e =
      ap (followed_by (success (utf8_lossy u ++ []))) (after e) ∙ ap (λ (s : List ℕ). success (s ++ text_of (trees more))) (append-nil (utf8_lossy u))
  one-joined h (Some (Comment u)) more later after e = ap (followed_by (success [])) (after e)
  one-joined h (Some (Tag own)) more later after e =
      let cs = own.children.items in
      let parts = faultless-below (first_fault (walk all_tags nodes (h ∷ []) cs)) (first_fault more) e in
      let same : walk all_tags nodes [] cs ≡ walk all_tags nodes (h ∷ []) cs = within-same (length nodes) [] (h ∷ []) cs (λ g off. refl) parts.0 in
      let read : inner_text nodes (Tag own) ≡ Ok (text_of (trees (walk all_tags nodes (h ∷ []) cs)))
      = ap (λ (w : Walk). walk_result text_of (meets_tag 0 own w end)) same
      ∙ ap (λ (o : Option TreeFault). fault_or (earlier_fault o None) (text_of (trees (walk all_tags nodes (h ∷ []) cs)) ++ [])) parts.0
      ∙ ap (λ (s : List ℕ). Ok s) (append-nil (text_of (trees (walk all_tags nodes (h ∷ []) cs)))) in
      ap₂ followed_by (ap (λ (r : Result (List ℕ) TreeFault). outcome_of r) read) (after parts.1)

  -- the texts of top nodes, each by a walk of its own, are those of one walk that meets no fault
  texts-joined : (hs : List ℕ) → first_fault (row_walk all_tags nodes (walk all_tags nodes) [] hs) ≡ None
      → joined (map (λ h. outcome_of (text_at nodes h)) hs) ≡ success (text_of (trees (row_walk all_tags nodes (walk all_tags nodes) [] hs)))
  texts-joined [] e = refl
  texts-joined (h ∷ hs) e =
      one-joined h (slice_get nodes h) (row_walk all_tags nodes (walk all_tags nodes) [] hs) (map (λ h. outcome_of (text_at nodes h)) hs) (texts-joined hs) e

pub texts_of_one_walk : (t : List ℕ) → texts_of (document t) ≡ outcome_of (document_text (document t))
texts_of_one_walk t =
    let xs = (document t).nodes in
    let hs = (document t).top in
    let step : walk all_tags xs [] hs ≡ row_walk all_tags xs (walk all_tags xs) [] hs = walk-step all_tags xs [] hs in
    texts-joined xs hs (ap first_fault (sym step) ∙ document-faultless t)
    ∙ ap (λ (w : Walk). success (text_of (trees w))) (sym step)
    ∙ sym (ap (λ (o : Option TreeFault). outcome_of (fault_or o (text_of (trees (walk all_tags xs [] hs))))) (document-faultless t))
