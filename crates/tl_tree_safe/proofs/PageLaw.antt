-- The tokens of trees that stay put them at an open place of a page.
use Rattle.std.proofs.Common.{Bool, List, None, Option, Some, [], ap, arith, codes, false, if◌then◌else◌, map, not, refl, subst, sym, true, true≢false, ℕ, ◌&&◌, ◌++◌, ◌∙◌, ◌∷◌, ◌≡◌}
use Rattle.std.proofs.lemmas.Bool.{and_parts, not-true}
use Rattle.tl_spec.specs.Tree.Forest.{none, tag, text}
use Rattle.tl_tree_spec.specs.Builder as P
use Rattle.tl_tree_spec.specs.HtmlForest as Z
use Rattle.tl_tree_spec.specs.HtmlForest.{html_tokens_of, normal_form}
use Rattle.tl_tree_spec.specs.HtmlTreeBuilder as R
use Rattle.tl_tree_spec.specs.Stays as Y
use Rattle.tl_tree_spec.proofs.Texts as X
use Rattle.tl_tree_spec.proofs.Trees.{stay-IsPlain}
use Rattle.tl_dom_spec.specs.Builder as B
use Rattle.tl_dom_spec.specs.Dispatcher as M
use Rattle.tl_html_spec.specs.HtmlTokenizer.{HtmlToken}
use Rattle.tl_html_spec.specs.Driven.{GoesByName, plain}
use Rattle.tl_dom_spec.specs.Driver.{builder, token_of}
use Rattle.tl_dom_spec.specs.HtmlTree.{document_of, page_start}
use Rattle.tl_dom_spec.specs.HtmlForest.{HtmlForest, before, element, no_trees}
use Rattle.tl_dom_spec.specs.Partial.{whole, without_numbers}
use Rattle.tl_dom_spec.specs.Path as W
use Rattle.tl_dom_spec.specs.Reset as E
use Rattle.tl_dom_spec.specs.Tags as T
use Rattle.tl_dom_spec.specs.Tags.{Tag}
use Rattle.tl_dom_spec.proofs.PartPaths.{nodes_of, tag_of}
use Rattle.tl_dom_spec.proofs.PartSources.{before-bare}
use Rattle.tl_tree_safe.specs.OfPages.{IsPutIntoPage, PutsInto, are_flow, begun, counted_as, ends_none_in, has_earlier, has_no_active, is_at_rest, is_node_for, is_none, is_open_here}
use Rattle.tl_tree_safe.specs.OfPages as L
use Rattle.tl_tree_safe.proofs.PageTags.{Fair, IsSome, mode-path, mode_tags, numbers, tags, within-tags}
use Rattle.tl_tree_safe.proofs.PageStates.{Active, Counts, counts_of, grown, over, state}
use Rattle.tl_tree_safe.proofs.PageStarts.{Around, Stands, flowing, is_flow_mode}
use Rattle.tl_tree_safe.proofs.PageTexts.{Same, held, put_in}
use Rattle.tl_tree_safe.proofs.PageRuns.{Ran, none-held, ran, same-none, tokens-append, tokens_of}

flow-parts : (m n : B.Mode) → are_flow m n ≡ true → (is_flow_mode m ≡ true) × (m ≡ n)
flow-parts B.in_body B.in_body h = (refl, refl)
flow-parts B.in_cell B.in_cell h = (refl, refl)
flow-parts B.in_caption B.in_caption h = (refl, refl)
flow-parts _ _ h = absurd (true≢false (sym h))

no-context : (c : Option Tag) → not (B.is_context (λ (t : Tag). true) c) ≡ true → c ≡ None
no-context None h = refl
no-context (Some t) h = absurd (true≢false (sym h))

none-is : (nodes : W.Nodes) → is_none nodes ≡ true → nodes ≡ W.no_nodes
none-is W.no_nodes h = refl
none-is (W.and_text nodes own) h = absurd (true≢false (sym h))
none-is (W.and_comment nodes own) h = absurd (true≢false (sym h))
none-is (W.and_doctype nodes own) h = absurd (true≢false (sym h))
none-is (W.and_element nodes t below) h = absurd (true≢false (sym h))

only-base : {base es : List B.Entry} → Active base es [] → es ≡ base
only-base over = refl

-- what an open place is
record IsOpen (b : B.Builder) : Type 0 where
  context : b.context ≡ None
  skips : b.skips ≡ false
  fostering : b.is_fostering ≡ false
  flows : is_flow_mode b.mode ≡ true
  resets : b.mode ≡ E.mode_of b (W.elements b.path)
  active : has_no_active b.active ≡ true
  given : L.are_given b.next b.active ≡ true
  is_so : (W.top b.path).is_open ≡ true
  html : T.is_html (W.top b.path).tag ≡ true
  heading : T.is_heading (W.top b.path).tag ≡ false
  waiting : (W.top b.path).waiting ≡ W.no_nodes
  fair : Fair b.flags.counts_search (tags b.path)

open-is : (b : B.Builder) → is_open_here b ≡ true → IsOpen b
open-is b h =
    let x = and_parts (is_at_rest b && are_flow b.mode (E.mode_of b (W.elements b.path))) _ h in
    let y = and_parts (is_at_rest b) (are_flow b.mode (E.mode_of b (W.elements b.path))) x.0 in
    let r = and_parts (not (B.is_fragment b) && not b.skips) (not b.is_fostering) y.0 in
    let q = and_parts (not (B.is_fragment b)) (not b.skips) r.0 in
    let m = flow-parts b.mode (E.mode_of b (W.elements b.path)) y.1 in
    let z = and_parts (has_no_active b.active && L.are_given b.next b.active) (is_node_for (W.top b.path) && ends_none_in b) x.1 in
    let a = and_parts (has_no_active b.active) (L.are_given b.next b.active) z.0 in
    let c = and_parts (is_node_for (W.top b.path)) (ends_none_in b) z.1 in
    let f = and_parts ((W.top b.path).is_open && T.is_html (W.top b.path).tag) _ c.0 in
    let g = and_parts (W.top b.path).is_open (T.is_html (W.top b.path).tag) f.0 in
    let i = and_parts (not (T.is_heading (W.top b.path).tag)) (is_none (W.top b.path).waiting) f.1 in
    let e = and_parts ((not (B.has_in_button_scope T.is_paragraph b) && not (has_earlier (T.is_any (codes "li")) b)) && (not (has_earlier (T.is_any (codes "dd dt")) b) && not (B.has_in_scope (T.is_any (codes "button")) b))) _ c.1 in
    let j = and_parts (not (B.has_in_button_scope T.is_paragraph b) && not (has_earlier (T.is_any (codes "li")) b)) _ e.0 in
    let k = and_parts (not (B.has_in_button_scope T.is_paragraph b)) (not (has_earlier (T.is_any (codes "li")) b)) j.0 in
    let l = and_parts (not (has_earlier (T.is_any (codes "dd dt")) b)) (not (B.has_in_scope (T.is_any (codes "button")) b)) j.1 in
    let n = and_parts (not (B.has_in_scope (T.is_any (codes "nobr")) b)) (not (B.has_in_scope (T.is_any (codes "ruby")) b) && not (B.has_in_scope T.is_select b)) e.1 in
    let o = and_parts (not (B.has_in_scope (T.is_any (codes "ruby")) b)) (not (B.has_in_scope T.is_select b)) n.1 in
    let by : (test stops : Tag → Bool) → not (W.has_within test stops b.path) ≡ true → P.within test stops (tags b.path) ≡ false =
    λ test stops w. sym (within-tags test stops b.path) ∙ not-true _ w in
    record {
      context = no-context b.context q.0;
      skips = not-true _ q.1;
      fostering = not-true _ r.1;
      flows = m.0;
      resets = m.1;
      active = a.0;
      given = a.1;
      is_so = g.0;
      html = g.1;
      heading = not-true _ i.0;
      waiting = none-is (W.top b.path).waiting i.1;
      fair = record {
        paragraph = by T.is_paragraph T.is_button_scope k.0;
        item = by (T.is_any (codes "li")) (T.is_item_bound b.flags.counts_search) k.1;
        description = by (T.is_any (codes "dd dt")) (T.is_item_bound b.flags.counts_search) l.0;
        button = by (T.is_any (codes "button")) T.is_scope l.1;
        nobr = by (T.is_any (codes "nobr")) T.is_scope n.0;
        ruby = by (T.is_any (codes "ruby")) T.is_scope o.0;
        select = by T.is_select T.is_scope o.1;
      };
    }

-- Nodes as trees

before-is : (nodes : P.Nodes) (later : Z.HtmlForest) → before (nodes_of nodes) (whole later) ≡ whole (R.before nodes later)
before-is P.no_nodes later = refl
before-is (P.and_text nodes bytes) later = before-is nodes (text bytes later)
before-is (P.and_element nodes own children) later =
    ap (λ inner. before (nodes_of nodes) (element (tag_of own) inner (whole later))) (before-is children none)
    ∙ before-is nodes (tag own (R.before children none) later)

pub trees-are : (nodes : W.Nodes) (ts : Z.HtmlForest) (names : List (List ℕ)) → Same nodes (X.grown P.no_nodes ts) → Y.stay names ts ≡ true → without_numbers (before nodes no_trees) ≡ whole (normal_form ts)
trees-are nodes ts names s h =
    before-bare nodes no_trees
    ∙ ap (λ x. before x no_trees) s.bare
    ∙ before-is (X.grown P.no_nodes ts) none
    ∙ ap whole (X.trees_grown ts (stay-IsPlain ts names h))

-- what the tokens of trees do, and their nodes beside those of the partial builder
pub record Built (b : B.Builder) (ts : Z.HtmlForest) : Type 0 where
  pub nodes : W.Nodes
  pub same : Same nodes (X.grown P.no_nodes ts)
  pub builds : L.put_in b (html_tokens_of ts) ≡ counted_as (L.put_in b (html_tokens_of ts)) (record b { path = W.put W.here nodes b.path })
  pub frameset : b.is_frameset_ok ≡ false → (L.put_in b (html_tokens_of ts)).is_frameset_ok ≡ false
  pub driven : GoesByName builder b (map plain (html_tokens_of ts))

abbrev with_counts : Counts → B.Builder → B.Builder
with_counts k b = record b {
  next = k.next;
  original = k.original;
  pending = k.pending;
  is_frameset_ok = k.is_frameset_ok;
  reads = k.reads;
  tokens = k.tokens;
  added = k.added;
  excess = k.excess;
  marks = k.marks;
}

-- The place

abbrev pub html_names : List (List ℕ)
html_names = codes "html" ∷ []

module _ (b : B.Builder) (o : IsOpen b) (g : W.Frame) (rest : W.Path) (path : b.path ≡ g ∷ rest) where
  -- at rest
  rested : (p : W.Path) (k : Counts) → state b p b.active b.mode false k ≡ with_counts k (record b { path = p })
  rested p k =
      ap (λ s. with_counts k (record b { path = p; skips = s; is_fostering = false; context = None })) (sym o.skips)
      ∙ ap (λ s. with_counts k (record b { path = p; is_fostering = s; context = None })) (sym o.fostering)
      ∙ ap (λ s. with_counts k (record b { path = p; context = s })) (sym o.context)

  top-waits : g.waiting ≡ W.no_nodes
  top-waits = ap (λ (p : W.Path). (W.top p).waiting) (sym path) ∙ o.waiting

  caught : grown g W.no_nodes ≡ g
  caught =
      ap (λ (w : W.Nodes). record g { children = W.joined g.children w; waiting = W.no_nodes }) top-waits
      ∙ ap (λ (w : W.Nodes). record g { waiting = w }) (sym top-waits)

  start : state b (grown g W.no_nodes ∷ rest) b.active b.mode false (counts_of b) ≡ b
  start =
      rested (grown g W.no_nodes ∷ rest) (counts_of b)
      ∙ ap (λ (f : W.Frame). record b { path = f ∷ rest }) caught
      ∙ ap (λ (p : W.Path). record b { path = p }) (sym path)

  abbrev outer : List Tag
  outer = tags (g ∷ rest)

  around : Around b b.mode b.active outer b.next
  around = record {
    fair = subst (λ p. Fair b.flags.counts_search (tags p)) path o.fair;
    none = o.active;
    given = o.given;
    flows = o.flows;
    some = subst (λ v. some_tags v) (sym is_open) tt;
    resets = ap (λ c. mode_tags (record b { context = c }) outer) (sym o.context)
        ∙ ap (λ p. mode_tags b (tags p)) (sym path)
        ∙ sym (mode-path b b.path)
        ∙ sym o.resets;
  }
    where
      is_open : g.is_open ≡ true
      is_open = ap (λ (p : W.Path). (W.top p).is_open) (sym path) ∙ o.is_so

      some_tags : Bool → Type 0
      some_tags v = IsSome (if v then g.tag ∷ tags rest else tags rest)

  stands : Stands outer (numbers (g ∷ rest)) [] g rest
  stands = record {
    is_so = ap (λ (p : W.Path). (W.top p).is_open) (sym path) ∙ o.is_so;
    html = ap (λ (p : W.Path). T.is_html (W.top p).tag) (sym path) ∙ o.html;
    tags_are = refl;
    numbers_are = refl;
    twins = tt;
    head = ap (λ (p : W.Path). T.is_heading (W.top p).tag) (sym path) ∙ o.heading;
    seat = flowing refl;
  }

  module _ (ts : Z.HtmlForest) (stay : Y.stay html_names ts ≡ true) where
    ran-there : Ran b b.mode b.active outer b.next (numbers (g ∷ rest)) around [] g rest W.no_nodes [] P.no_nodes b.active (counts_of b) ts
    ran-there = ran b b.mode b.active outer b.next (numbers (g ∷ rest)) around ts [] g rest W.no_nodes [] P.no_nodes b.active (counts_of b)
        stands (omega arith) over tt (λ _. same-none) stay

    abbrev nodes : W.Nodes
    nodes = ran-there.to

    none-waits : ran-there.waits ≡ []
    none-waits = none-held P.in_body ran-there.waits refl ran-there.held_so

    built : M.tokens_done b (tokens_of ts) ≡ with_counts ran-there.counts (record b { path = W.put W.here nodes b.path })
    built =
        ap (λ c. M.tokens_done c (tokens_of ts)) (sym start)
        ∙ ran-there.runs
        ∙ ap (λ ws. held b (grown g nodes ∷ rest) ran-there.left b.mode ran-there.counts ws) none-waits
        ∙ ap (λ es. state b (grown g nodes ∷ rest) es b.mode false ran-there.counts) (only-base ran-there.active)
        ∙ rested (grown g nodes ∷ rest) ran-there.counts
        ∙ ap (λ (p : W.Path). with_counts ran-there.counts (record b { path = W.put W.here nodes p })) (sym path)

    built-there : Built b ts
    built-there = record {
      nodes = nodes;
      same = subst (λ ws. Same (put_in nodes ws 0) (X.grown P.no_nodes ts)) none-waits (ran-there.same 0);
      builds = built ∙ sym (ap (λ c. counted_as c (record b { path = W.put W.here nodes b.path })) built);
      frameset = λ h. ap (λ (c : B.Builder). c.is_frameset_ok) built ∙ ran-there.ok h;
      driven = subst (λ c. GoesByName builder c (map plain (html_tokens_of ts))) start ran-there.goes;
    }

pub built-at : (b : B.Builder) (ts : Z.HtmlForest) → is_open_here b ≡ true → Y.stay html_names ts ≡ true → Built b ts
built-at b ts h stay = from b.path refl
  where
    from : (p : W.Path) → b.path ≡ p → Built b ts
    from [] x = absurd (true≢false (sym (open-is b h).is_so ∙ ap (λ (p : W.Path). (W.top p).is_open) x))
    from (g ∷ rest) x = built-there b (open-is b h) g rest x ts stay

pub puts : (b : B.Builder) (ts : Z.HtmlForest) (trees : HtmlForest) → is_open_here b ≡ true → Y.stay html_names ts ≡ true → whole (normal_form ts) ≡ without_numbers trees → PutsInto b (html_tokens_of ts) trees
puts b ts trees h stay e =
    let s = built-at b ts h stay in
    record {
      nodes = s.nodes;
      are = trees-are s.nodes ts html_names s.same stay ∙ e;
      builds = s.builds;
      frameset = s.frameset;
      driven = s.driven;
    }

pub puts_into_page : (flags : B.Flags) (front print back : List HtmlToken) (trees : HtmlForest) → PutsInto (begun flags front) print trees → IsPutIntoPage flags front print back trees
puts_into_page flags front print back trees s =
    let b : B.Builder = begun flags front in
    let held_now : B.Builder = record b { path = W.put W.here s.nodes b.path } in
    record {
      nodes = s.nodes;
      are = s.are;
      page = ap (λ (c : B.Builder). document_of (M.token_done c B.end_of_file))
          (tokens-append (page_start flags) front (print ++ back)
          ∙ tokens-append b print back
          ∙ ap (λ (c : B.Builder). M.tokens_done c (map token_of back))
          (s.builds ∙ ap (λ (c : B.Builder). counted_as c held_now) (sym (tokens-append (page_start flags) front print))));
    }
