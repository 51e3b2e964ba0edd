-- The way along last children is the last path of the full walk, and in a document just read it ends at the last descendant.
use Rattle.std.proofs.Common.{◌≡◌, ℕ, zero, suc, ◌+◌, ◌-◌, ◌<◌, Bool, true, false, nat_lt, if◌then◌else◌, List, [], ◌∷◌, ◌++◌, length, slice_get, Option, Some, None, Result, Ok, Err, refl, ap, sym, ◌∙◌, subst, arith, take, drop, le-ltb}
use Rattle.std.specs.Prelude.{⊤}
use Rattle.std.specs.List.{between, last_or}
use Rattle.std.proofs.lemmas.List.{length-take, take_min}
use Rattle.tl_spec.specs.Tree.Document.{Node, Raw, Comment, Tag, document}
use Rattle.tl_spec.specs.Walk.Range.{handle_end, step_end, end_within, end_below, last_below, range_of, range_between, with_end, end_or_later, walk_end, AreRangesOfDescendants}
use Rattle.tl_spec.specs.Walk.{TreeFault, Walk, end, meets_text, meets_comment, meets_tag, passes_tag, meets_fault, all_tags, handle_walk, row_walk, walk_within, walk, stands_on, visits, visits_from}
use Rattle.tl_spec.proofs.Tree.Order.{descendants-interval}
use Rattle.tl_spec.proofs.Walk.Walks.{walk-step, walk-nil}

module _ (nodes : List Node) where
  -- what stands after a handle is met later
  met-later : (below : List ℕ → Walk) (h : ℕ) (more : Walk) (here later : Result (Option ℕ) TreeFault) (stands : Bool) (node : Option Node) →
      end_or_later (handle_walk all_tags nodes below h more stands node) here later ≡ later
  met-later below h more here later stands None = refl
  met-later below h more here later true (Some node) = refl
  met-later below h more here later false (Some (Raw bytes)) = refl
  met-later below h more here later false (Some (Comment bytes)) = refl
  met-later below h more here later false (Some (Tag own)) = refl

  -- a handle with another one after it in its row does not count
  pass-by : (below : List ℕ → Walk) (h : ℕ) (more : Walk) (before : Option ℕ) → ((here later : Result (Option ℕ) TreeFault) → end_or_later more here later ≡ later) →
      (stands : Bool) (node : Option Node) → walk_end before (handle_walk all_tags nodes below h more stands node) ≡ walk_end before more
  pass-by below h more before e stands None = e _ _
  pass-by below h more before e true (Some node) = e _ _
  pass-by below h more before e false (Some (Raw bytes)) = e _ _
  pass-by below h more before e false (Some (Comment bytes)) = e _ _
  pass-by below h more before e false (Some (Tag own)) = e _ _

  module _ (f : List ℕ → Option ℕ → Result (Option ℕ) TreeFault) (below : List ℕ → List ℕ → Walk)
      (leaf : (path : List ℕ) → f path None ≡ Ok (slice_get path 0))
      (same : (path hs : List ℕ) → f path (last_or None hs) ≡ walk_end (slice_get path 0) (below path hs)) where
    last-same : (path : List ℕ) (h : ℕ) (before : Option ℕ) (stands : Bool) (node : Option Node) →
        handle_end nodes (f (h ∷ path)) h stands node ≡ walk_end before (handle_walk all_tags nodes (below (h ∷ path)) h end stands node)
    last-same path h before stands None = refl
    last-same path h before true (Some node) = refl
    last-same path h before false (Some (Raw bytes)) = leaf (h ∷ path)
    last-same path h before false (Some (Comment bytes)) = leaf (h ∷ path)
    last-same path h before false (Some (Tag own)) = same (h ∷ path) own.children.items

    row-same : (path hs : List ℕ) → step_end nodes f path (last_or None hs) ≡ walk_end (slice_get path 0) (row_walk all_tags nodes below path hs)
    row-same path [] = refl
    row-same path (h ∷ []) = last-same path h (slice_get path 0) (stands_on path h) (slice_get nodes h)
    row-same path (h ∷ k ∷ hs) =
        let more : Walk = row_walk all_tags nodes below path (k ∷ hs) in
        row-same path (k ∷ hs)
        ∙ sym (pass-by (below (h ∷ path)) h more (slice_get path 0)
        (λ here later. met-later (below (k ∷ path)) k (row_walk all_tags nodes below path hs) here later (stands_on path k) (slice_get nodes k))
        (stands_on path h) (slice_get nodes h))

  leaf-within : (n : ℕ) (path : List ℕ) → end_within nodes n path None ≡ Ok (slice_get path 0)
  leaf-within zero path = refl
  leaf-within (suc n) path = refl

  same-within : (n : ℕ) (path hs : List ℕ) → end_within nodes n path (last_or None hs) ≡ walk_end (slice_get path 0) (walk_within all_tags nodes n path hs)
  same-within zero path hs = row-same (λ before next. Ok (slice_get before 0)) (λ _ _. end) (λ _. refl) (λ _ _. refl) path hs
  same-within (suc n) path hs = row-same (end_within nodes n) (walk_within all_tags nodes n) (leaf-within n) (same-within n) path hs

  pub last-of_walk : (hs : List ℕ) → last_below nodes (last_or None hs) ≡ walk_end None (walk all_tags nodes [] hs)
  last-of_walk hs = same-within (length nodes) [] hs

  pub end-step : (path : List ℕ) (last : Option ℕ) → end_below nodes path last ≡ step_end nodes (end_below nodes) path last
  end-step path None = leaf-within (length nodes) path
  end-step path (Some h) =
      same-within (length nodes) path (h ∷ [])
      ∙ ap (walk_end (slice_get path 0)) (walk-step all_tags nodes path (h ∷ []))
      ∙ sym (row-same (end_below nodes) (walk all_tags nodes) (leaf-within (length nodes)) (same-within (length nodes)) path (h ∷ []))

-- a walk without faults

abbrev Visits : Type 0
Visits = List (Result (ℕ × Node) TreeFault)

-- no fault is among them
abbrev AreNodes : Visits → Type 0
AreNodes [] = ⊤
AreNodes (Ok v ∷ vs) = AreNodes vs
AreNodes (Err e ∷ vs) = ⊥

-- the number of the last node, or the one before
abbrev last_number : Option ℕ → Visits → Option ℕ
last_number before [] = before
last_number before (Ok v ∷ vs) = last_number (Some v.0) vs
last_number before (Err e ∷ vs) = last_number before vs

abbrev first_number : Visits → Option ℕ
first_number [] = None
first_number (Ok v ∷ vs) = Some v.0
first_number (Err e ∷ vs) = None

nodes-front : (vs ws : Visits) → AreNodes (vs ++ ws) → AreNodes vs × AreNodes ws
nodes-front [] ws h = (tt, h)
nodes-front (Ok v ∷ vs) ws h = nodes-front vs ws h
nodes-front (Err e ∷ vs) ws h = absurd h

last-append : (before : Option ℕ) (vs ws : Visits) → last_number before (vs ++ ws) ≡ last_number (last_number before vs) ws
last-append before [] ws = refl
last-append before (Ok v ∷ vs) ws = last-append (Some v.0) vs ws
last-append before (Err e ∷ vs) ws = last-append before vs ws

end-later : (more : Walk) (here before : Option ℕ) → AreNodes (visits more) → walk_end before more ≡ Ok (last_number before (visits more)) →
    end_or_later more (Ok here) (walk_end before more) ≡ Ok (last_number here (visits more))
end-later end here before h e = refl
end-later (meets_text k bytes more) here before h e = e
end-later (meets_comment k bytes more) here before h e = e
end-later (meets_tag k own children more) here before h e = e
end-later (passes_tag k own more) here before h e = e
end-later (meets_fault fault more) here before h e = absurd h

-- a walk without faults ends at the last node that it visits
end-visited : (w : Walk) (before : Option ℕ) → AreNodes (visits w) → walk_end before w ≡ Ok (last_number before (visits w))
end-visited end before h = refl
end-visited (meets_text k bytes more) before h = end-later more (Some k) before h (end-visited more before h)
end-visited (meets_comment k bytes more) before h = end-later more (Some k) before h (end-visited more before h)
end-visited (meets_tag k own children more) before h =
    let parts = nodes-front (visits children) (visits more) h in
    ap (λ r. end_or_later more r (walk_end before more)) (end-visited children (Some k) parts.0)
    ∙ end-later more (last_number (Some k) (visits children)) before parts.1 (end-visited more before parts.1)
    ∙ ap Ok (sym (last-append (Some k) (visits children) (visits more)))
end-visited (passes_tag k own more) before h = end-later more (Some k) before h (end-visited more before h)
end-visited (meets_fault fault more) before h = absurd h

-- the first one has the first handle of the row
first-visited : (nodes : List Node) (below : List ℕ → Walk) (h : ℕ) (more : Walk) (stands : Bool) (node : Option Node) →
    AreNodes (visits (handle_walk all_tags nodes below h more stands node)) → first_number (visits (handle_walk all_tags nodes below h more stands node)) ≡ Some h
first-visited nodes below h more stands None n = absurd n
first-visited nodes below h more true (Some node) n = absurd n
first-visited nodes below h more false (Some (Raw bytes)) n = refl
first-visited nodes below h more false (Some (Comment bytes)) n = refl
first-visited nodes below h more false (Some (Tag own)) n = refl

-- nodes in the order of their numbers

nodes-from : (n : ℕ) (xs : List Node) → AreNodes (visits_from n xs)
nodes-from n [] = tt
nodes-from n (x ∷ xs) = nodes-from (n + 1) xs

last-from : (before : Option ℕ) (n : ℕ) (x : Node) (xs : List Node) → last_number before (visits_from n (x ∷ xs)) ≡ Some (n + length xs)
last-from before n x [] = ap Some (omega arith)
last-from before n x (y ∷ ys) = last-from (Some n) (n + 1) y ys ∙ ap Some (omega arith)

module _ (nodes : List Node) (n count : ℕ) where
  -- the range of a row whose walk visits these nodes
  record Ranges (hs : List ℕ) : Type 0 where
    range : ℕ × ℕ
    is : range_of nodes hs ≡ Ok range
    holds : visits (walk all_tags nodes [] hs) ≡ visits_from range.0 (between range.0 range.1 nodes)
    next : range.0 < range.1 → range.0 ≡ n + 1

  ranges-cons : (h : ℕ) (hs : List ℕ) (xs : List Node) → xs ≡ take count (drop (n + 1) nodes) → visits (walk all_tags nodes [] (h ∷ hs)) ≡ visits_from (n + 1) xs → Ranges (h ∷ hs)
  ranges-cons h hs xs is e =
      let step : visits (walk all_tags nodes [] (h ∷ hs)) ≡ visits (row_walk all_tags nodes (walk all_tags nodes) [] (h ∷ hs)) = ap visits (walk-step all_tags nodes [] (h ∷ hs)) in
      let all : AreNodes (visits (row_walk all_tags nodes (walk all_tags nodes) [] (h ∷ hs))) = subst AreNodes (sym e ∙ step) (nodes-from (n + 1) xs) in
      let first : first_number (visits_from (n + 1) xs) ≡ Some h =
      ap first_number (sym e ∙ step) ∙ first-visited nodes (walk all_tags nodes (h ∷ [])) h (row_walk all_tags nodes (walk all_tags nodes) [] hs) (stands_on [] h) (slice_get nodes h) all in
      go xs is e first
    where
      go : (ys : List Node) → ys ≡ take count (drop (n + 1) nodes) → visits (walk all_tags nodes [] (h ∷ hs)) ≡ visits_from (n + 1) ys → first_number (visits_from (n + 1) ys) ≡ Some h → Ranges (h ∷ hs)
      go [] is e first = absurd (cc)
      go (y ∷ ys) is e first =
          let begins : n + 1 ≡ h = cc in
          let last : ℕ = n + 1 + length ys in
          let all : AreNodes (visits (walk all_tags nodes [] (h ∷ hs))) = subst AreNodes (sym e) (nodes-from (n + 1) (y ∷ ys)) in
          let ends : last_below nodes (last_or None (h ∷ hs)) ≡ Ok (Some last) =
          last-of_walk nodes (h ∷ hs) ∙ end-visited (walk all_tags nodes [] (h ∷ hs)) None all ∙ ap Ok (ap (last_number None) e ∙ last-from None (n + 1) y ys) in
          let forward : nat_lt last (n + 1) ≡ false = le-ltb last (n + 1) (omega arith) in
          let long : length (y ∷ ys) ≡ last + 1 - (n + 1) = omega arith in
          let cut : between (n + 1) (last + 1) nodes ≡ y ∷ ys =
          ap (λ k. take k (drop (n + 1) nodes)) (sym long ∙ ap length is ∙ length-take count (drop (n + 1) nodes)) ∙ take_min count (drop (n + 1) nodes) ∙ sym is in
          record {
            range = (n + 1, last + 1);
            is = ap (λ r. range_between (with_end (Some h) r)) ends ∙ ap (λ k. Ok (if nat_lt last k then (0, 0) else (k, last + 1))) (sym begins) ∙ ap (λ b. Ok (if b then (0, 0) else (n + 1, last + 1))) forward;
            holds = e ∙ ap (visits_from (n + 1)) (sym cut);
            next = λ _. refl;
          }

  ranges : (hs : List ℕ) → visits (walk all_tags nodes [] hs) ≡ visits_from (n + 1) (take count (drop (n + 1) nodes)) → Ranges hs
  ranges [] e = record { range = (0, 0); is = refl; holds = ap visits (walk-nil all_tags nodes []); next = λ l. absurd (omega arith) }
  ranges (h ∷ hs) e = ranges-cons h hs (take count (drop (n + 1) nodes)) refl e

pub ranges-descendants : (t : List ℕ) → AreRangesOfDescendants (document t).nodes
ranges-descendants t n own e =
    let next = descendants-interval t n own e in
    let r = ranges (document t).nodes n next.0 own.children.items next.1 in
    (r.range, r.is, r.holds, r.next)

pub ruleset laws = (last-of_walk, end-step, ranges-descendants)
