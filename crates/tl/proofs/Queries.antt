-- What a query of a document finds.
use Rattle.std.proofs.Common.{◌≡◌, ◌≤◌, ◌<◌, ◌^◌, ℕ, Bool, List, length, map, Ok, Option, Some, None, option_map, refl, sym, ap, subst, ◌∙◌, arith}
use Rattle.std.specs.List.{filter}
use Rattle.std.specs.Option.{ForSome}
use Rattle.std.proofs.lemmas.List.{length-map}
use Rattle.std.proofs.lemmas.List.FromFn.{length-range_with_len}
use Rattle.std.proofs.lemmas.List.Sums.{count_by-le-length, length-filter}
use Rattle.tl_spec.specs.Tree.Document.{Node}
use Rattle.tl_spec.specs.Walk.Range.{range_of}
use Rattle.tl_spec.specs.Select.Selector.{Selector}
use Rattle.tl_spec.specs.Select.Meaning.{AreMatches}
use Rattle.tl_spec.specs.Select.Reading.{selector_at}
use Rattle.tl_spec.specs.Select.Search.{matches_between, node_numbers}
use Rattle.tl_spec.specs.Select.Text.{IsSelectorText}
use Rattle.tl_spec.proofs.Select.Search.{matches-only}
use Rattle.tl_spec.proofs.Select.Text.{text-only, text-none}
use Rattle.tl.specs.Query.{FindsBelow, FindsIn, matches_in}
use Rattle.tl.specs.View.{HTMLTable, node_view, document_of}

few_filtered : (p : ℕ → Bool) (xs : List ℕ) → length (filter p xs) ≤ length xs
few_filtered p xs = omega (arith, length-filter p xs, count_by-le-length p xs)

-- no more are found between two numbers than there are nodes
few_between : (nodes : List Node) (e : Selector) (from to : ℕ) → length (matches_between nodes e from to) ≤ length nodes
few_between nodes e from to =
    let fewer : length (matches_between nodes e from to) ≤ length (node_numbers nodes) = few_filtered _ (node_numbers nodes) in
    omega (arith, fewer, length-range_with_len 0 (length nodes))

module _ (d : HTMLTable) (text : List ℕ) where
  whole : (e : Selector) (ns : List ℕ) → AreMatches (map node_view d.nodes) e 0 (length d.nodes) ns → ns ≡ matches_in (document_of d) e
  whole e ns m =
      matches-only (map node_view d.nodes) e 0 (length (map node_view d.nodes)) ns
      (subst (λ (n : ℕ). AreMatches (map node_view d.nodes) e 0 n ns) (sym (length-map d.nodes node_view)) m)

  -- by the plain reader of selector texts
  pub query-reading : (found : Option (List ℕ)) → FindsIn d text found → found ≡ option_map (matches_in (document_of d)) (selector_at text)
  query-reading None h = sym (ap (λ (s : Option Selector). option_map (matches_in (document_of d)) s) ((text-none text).0 h))
  query-reading (Some ns) (e, t, m) =
      ap Some (whole e ns m) ∙ sym (ap (λ (s : Option Selector). option_map (matches_in (document_of d)) s) ((text-only text e).0 t))

  -- by the selector of the text
  pub query-some : (found : Option (List ℕ)) (e : Selector) → FindsIn d text found → IsSelectorText text e → found ≡ Some (matches_in (document_of d) e)
  query-some found e h t = query-reading found h ∙ ap (λ (s : Option Selector). option_map (matches_in (document_of d)) s) ((text-only text e).0 t)

  pub query-none : (found : Option (List ℕ)) → FindsIn d text found → ((e : Selector) → IsSelectorText text e → ⊥) → found ≡ None
  query-none found h lacks = query-reading found h ∙ ap (λ (s : Option Selector). option_map (matches_in (document_of d)) s) ((text-none text).0 lacks)

  few_matches : (e : Selector) → length (matches_in (document_of d) e) ≤ length d.nodes
  few_matches e = omega (arith, few_between (map node_view d.nodes) e 0 (length (map node_view d.nodes)), length-map d.nodes node_view)

  -- no more are found than there are nodes
  pub query-few : (found : Option (List ℕ)) → FindsIn d text found → length d.nodes < 2 ^ 32 → ForSome found (λ ns. length ns < 2 ^ 32)
  query-few None h small = λ ns is. absurd (cc)
  query-few (Some ns) (e, t, m) small = λ ms is.
      let few = few_matches e in
      let all = whole e ns m in
      let same : ms ≡ ns = cc in
      omega (arith, ap length same, ap length all, few, small)

-- below a tag
module _ (nodes : List Node) (children text : List ℕ) where
  pub below-some : (found : Option (List ℕ)) (e : Selector) → FindsBelow nodes children text found → IsSelectorText text e →
      (range : ℕ × ℕ) × (range_of nodes children ≡ Ok range) × (found ≡ Some (matches_between nodes e range.0 range.1))
  below-some None e none stands = absurd (none e stands)
  below-some (Some ns) e (f, t, (range, is, m)) stands =
      let read : selector_at text ≡ Some e = (text-only text e).0 stands in
      let own : selector_at text ≡ Some f = (text-only text f).0 t in
      let same : f ≡ e = cc in
      (range, is, ap Some (matches-only nodes f range.0 range.1 ns m ∙ ap (λ x. matches_between nodes x range.0 range.1) same))

  pub below-none : (found : Option (List ℕ)) → FindsBelow nodes children text found → ((e : Selector) → IsSelectorText text e → ⊥) → found ≡ None
  below-none None finds lacks = refl
  below-none (Some ns) (f, t, found) lacks = absurd (lacks f t)

  pub below-few : (found : Option (List ℕ)) → FindsBelow nodes children text found → length nodes < 2 ^ 32 → ForSome found (λ ns. length ns < 2 ^ 32)
  below-few None finds small = λ ns is. absurd (cc)
  below-few (Some ns) (f, t, (range, is, m)) small = λ ms same.
      let all : ms ≡ matches_between nodes f range.0 range.1 = let own : ms ≡ ns = cc in own ∙ matches-only nodes f range.0 range.1 ns m in
      omega (arith, ap length all, few_between nodes f range.0 range.1, small)
