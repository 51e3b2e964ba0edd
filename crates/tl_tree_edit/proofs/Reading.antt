-- What is left of a tree that is read event by event.
use Rattle.std.proofs.Common.{Bool, Bor, List, None, Option, Some, [], add-one, ap, ap₂, arith, false, length, map, refl, subst, suc, sym, true, zero, ℕ, ◌+◌, ◌++◌, ◌<◌, ◌≡◌, ◌≢◌, ◌↔◌, ◌∙◌, ◌∷◌}
use Rattle.std.proofs.lemmas.Option.{same_Some}
use Rattle.std.specs.Bool.{IsTrue}
use Rattle.std.specs.Option.{is_some, option_and_then, option_copied, option_map, unwrap_or}
use Rattle.std.specs.Prelude.{MatchOption, drop, if◌then◌else◌, not, slice_get}
use Rattle.std.proofs.lemmas.List.{reverse-append}
use Rattle.tl_tree.specs.Asked.{end_at, kind_of, node_at, text_of}
use Rattle.tl_tree.specs.Rows.{Node, Row, a_comment, a_doctype, a_text, an_element, contents}
use Rattle.tl_tree.specs.declared.kind.Kind as kind
use Rattle.tl_tree.specs.declared.kind.Kind.TheVariants as kinds
use Rattle.tl_tree_edit.proofs.Following.{cons-not-nil}
use Rattle.tl_tree_edit.proofs.Saying.{end_said, none_said, row_said}
use Rattle.tl_tree_edit.specs.Bare.{bare}
use Rattle.tl_tree_edit.specs.Events.{Event, Open, begins, begun, ends, is_past, kept, opened_to, own_end, said, says}
use Rattle.tl_tree_edit.specs.declared.events.Event as own
use Rattle.tl_tree_edit.specs.declared.events.Event.TheVariants.{Begins, Ends, Says}
use Rattle.tl_tree_edit.specs.Inner.Walk.{AreLeft, IsBegun, IsNext, held, is_kind_with_end, own_open, own_opens, rest_of, row_at}

-- the innermost open row ends next
pub end_taken : (rows : List Row) (n : ℕ) (xs ys : List ℕ) (r : Option ℕ)
    → MatchOption r ((ys ≡ xs) × AreLeft (row_at rows n) (own_opens xs)) (λ end. IsTrue (is_past (row_at rows n) end) × (own_opens xs ≡ own_open end ∷ own_opens ys))
    → IsTrue (is_some r) → rest_of rows xs n ≡ ends ∷ rest_of rows ys n
end_taken rows n xs ys None h is = cc
end_taken rows n xs ys (Some end) h is =
    ap (λ outer. said outer 0 n (map kept (drop n rows))) h.1 ∙ end_said rows n (own_open end) (own_opens ys) h.0

-- A text comes next

pub text-node : (node : Node) (text : List ℕ) → kind_of node ≡ kinds.Text → text ≡ unwrap_or (text_of node) [] → (begun node ≡ map says text) × (own_end node ≡ None)
text-node (an_element tag) text k is = cc
text-node contents text k is = cc
text-node (a_text own) text k is = (ap (map says) (sym is), refl)
text-node (a_comment own) text k is = cc
text-node (a_doctype own) text k is = cc

text-in : (rows : List Row) (n m : ℕ) (outer : List Open) (text : List ℕ) (r : Option Row) → slice_get rows n ≡ r → m ≡ n + 1 → AreLeft (row_at rows n) outer
    → option_map kind_of (option_map (λ (row : Row). row.node) r) ≡ Some kinds.Text → text ≡ unwrap_or (option_and_then text_of (option_map (λ (row : Row). row.node) r)) []
    → map says text ++ said outer 0 m (map kept (drop m rows)) ≡ said outer 0 n (map kept (drop n rows))
text-in rows n m outer text None e next none k is = cc
text-in rows n m outer text (Some row) e next none k is =
    let it = text-node row.node text (same_Some (kind_of row.node) kinds.Text k) is in
    let here : m ≡ suc n = next ∙ add-one n in
    rw here
    (sym
    (row_said rows n row outer e none
    ∙ ap₂ (λ (b : List Event) (l : Option (List Event)). b ++ said (opened_to row.end l outer) 0 (suc n) (map kept (drop (suc n) rows))) it.0 it.1))

pub text_taken : (rows : List Row) (n m : ℕ) (xs text : List ℕ) → m ≡ n + 1 → AreLeft (row_at rows n) (own_opens xs) → option_map kind_of (node_at rows n) ≡ Some kinds.Text → text ≡ unwrap_or (option_and_then text_of (node_at rows n)) [] → map says text ++ rest_of rows xs m ≡ rest_of rows xs n
text_taken rows n m xs text next none k is = text-in rows n m (own_opens xs) text (slice_get rows n) refl next none k is

-- Another node comes next

pub begun-node : (node : Node) → kind_of node ≢ kinds.Text → (begun node ≡ begins (bare node) ∷ []) × (own_end node ≡ (if is_kind_with_end (kind_of node) then Some (ends ∷ []) else None))
begun-node (an_element tag) t = (refl, refl)
begun-node contents t = (refl, refl)
begun-node (a_text own) t = absurd (t refl)
begun-node (a_comment own) t = (refl, refl)
begun-node (a_doctype own) t = (refl, refl)

held-opens : (is : Bool) (xs : List ℕ) (end : ℕ) → opened_to end (if is then Some (ends ∷ []) else None) (own_opens xs) ≡ own_opens (held is xs end)
held-opens true xs end = sym (ap (map own_open) (reverse-append xs (end ∷ [])))
held-opens false xs end = refl

node-in : (rows : List Row) (n m : ℕ) (xs ys : List ℕ) (k : kind.Kind) (r : Option Row) → slice_get rows n ≡ r → m ≡ n + 1 → AreLeft (row_at rows n) (own_opens xs)
    → option_map kind_of (option_map (λ (row : Row). row.node) r) ≡ Some k → k ≢ kinds.Text → ys ≡ held (is_kind_with_end k) xs (unwrap_or (option_map (λ (row : Row). row.end) r) 0)
    → IsBegun rows n (rest_of rows xs n) (rest_of rows ys m)
node-in rows n m xs ys k None e next none is other open' = cc
node-in rows n m xs ys k (Some row) e next none is other open' =
    let kind-is : kind_of row.node ≡ k = same_Some (kind_of row.node) k is in
    let it = begun-node row.node (λ t. other (sym kind-is ∙ t)) in
    let here : m ≡ suc n = next ∙ add-one n in
    let opens : opened_to row.end (own_end row.node) (own_opens xs) ≡ own_opens ys =
    ap (λ (l : Option (List Event)). opened_to row.end l (own_opens xs)) it.1
    ∙ (held-opens (is_kind_with_end (kind_of row.node)) xs row.end
    ∙ (ap (λ (v : kind.Kind). own_opens (held (is_kind_with_end v) xs row.end)) kind-is ∙ ap own_opens (sym open'))) in
    record {
      node = row.node;
      stands = ap (option_map (λ (own : Row). own.node)) e;
      says =
          row_said rows n row (own_opens xs) e none
          ∙ (ap₂ (λ (b : List Event) (os : List Open). b ++ said os 0 (suc n) (map kept (drop (suc n) rows))) it.0 opens
          ∙ ap (λ (v : ℕ). begins (bare row.node) ∷ said (own_opens ys) 0 v (map kept (drop v rows))) (sym here));
    }

pub node_begun : (rows : List Row) (n m : ℕ) (xs ys : List ℕ) (k : kind.Kind) → m ≡ n + 1 → AreLeft (row_at rows n) (own_opens xs) → option_map kind_of (node_at rows n) ≡ Some k → k ≢ kinds.Text → ys ≡ held (is_kind_with_end k) xs (unwrap_or (end_at rows n) 0) → IsBegun rows n (rest_of rows xs n) (rest_of rows ys m)
node_begun rows n m xs ys k next none is other now = node-in rows n m xs ys k (slice_get rows n) refl next none is other now

-- Nothing comes next

pub map-none : {A B : Type 0} (f : A → B) (o : Option A) → option_map f o ≡ None → o ≡ None
map-none f None e = refl
map-none f (Some a) e = cc

pub nothing_left : (rows : List Row) (n : ℕ) (xs : List ℕ) → option_map kind_of (node_at rows n) ≡ None → AreLeft (row_at rows n) (own_opens xs) → rest_of rows xs n ≡ []
nothing_left rows n xs k none =
    let no-node = map-none kind_of (node_at rows n) k in
    none_said rows n (own_opens xs) no-node (subst (λ (at : Option ℕ). AreLeft at (own_opens xs)) (ap (option_map (λ (node : Node). n)) no-node) none)

-- a row that a kind is known of
pub known-within : (rows : List Row) (n : ℕ) (k : kind.Kind) → option_map kind_of (node_at rows n) ≡ Some k → n < length rows
known-within [] n k e = cc
known-within (row ∷ rows) zero k e = omega arith
known-within (row ∷ rows) (suc n) k e = let less = known-within rows n k e in omega (arith, less)

pub bytes-or : (o : Option (Bor (List ℕ))) (d : Bor (List ℕ)) → (unwrap_or o d).now ≡ unwrap_or (option_copied o) d.now
bytes-or None d = refl
bytes-or (Some b) d = refl

-- whether nothing is left
pub none_next : (rows : List Row) (old new : List Event) (r : Option own.Event) (none : Bool) → IsNext rows old new r → is_some r ≡ not none → IsTrue none ↔ (old ≡ [])
none_next rows old new None true h e = (λ t. h, λ o. refl)
none_next rows old new None false h e = cc
none_next rows old new (Some event) true h e = cc
none_next rows old new (Some (Begins n)) false h e = (λ t. cc, λ o. absurd (cons-not-nil _ _ (sym h.says ∙ o)))
none_next rows old new (Some (Says byte)) false h e = (λ t. cc, λ o. absurd (cons-not-nil _ _ (sym h ∙ o)))
none_next rows old new (Some Ends) false h e = (λ t. cc, λ o. absurd (cons-not-nil _ _ (sym h ∙ o)))
