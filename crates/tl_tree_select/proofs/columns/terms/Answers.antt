use Rattle.std.proofs.Common.{◌≡◌, ◌↔◌, ◌<◌, ◌+◌, ◌∙◌, ℕ, List, Bool, true, length, arith, ap, subst, sym}
use Rattle.std.proofs.lemmas.List.{length_push}
use Rattle.tl_tree_select.specs.Page.{seen}
use Rattle.tl_tree_select.specs.Meaning.{IsTerm}
use Rattle.tl_tree_select.specs.Inner.Links.{count_at, is_at}
use Rattle.tl_tree_select.proofs.Trees.{tree_small, tree_up}
use Rattle.tl_tree_select.proofs.Pushes.{one_mark}
use Rattle.tl_tree_select.proofs.Siblings.{links_lower}
use Rattle.tl_tree_select.proofs.Relatives.{marks_counted}
use Rattle.tl_tree_select.proofs.columns.terms.Goals as goal

pub counts-requires : goal.counts-requires
counts-requires c =
    let page = seen c.args.page.now in
    let len = c.requires.links.len in
    let small = (tree_small c.args.page.now.tree.now) in
    record {
      lower = links_lower page (tree_up c.args.page.now.tree.now) c.args.sequence.1 c.args.links.now c.requires.links;
      numbered = omega (arith, len, small);
    }

pub loop-number-preserved : goal.loop-number-preserved
loop-number-preserved c =
    let n = c.loop-number.number in
    let found = c.loop-number.found.items in
    let counts = c.in_ok-counts.counts.items in
    let P : ℕ → Type 0 = λ i. (is_at c.args.marks.now i ≡ true) × IsTerm c.args.sequence.2 (count_at counts i) in
    let pushed = c.in_ok-push.ensures.items in
    let new : (c.is_marked_term.result ≡ true) ↔ P n = subst (λ (cs : List ℕ). (c.is_marked_term.result ≡ true) ↔ ((is_at c.args.marks.now n ≡ true) × IsTerm c.args.sequence.2 (count_at cs n))) c.deref.ensures.value c.is_marked_term.ensures in
    record {
      len = ap length pushed ∙ (length_push found c.is_marked_term.result ∙ ap (λ k. k + 1) c.loop-number.invariant.len);
      each = subst (λ (xs : List Bool). (i : ℕ) → i < n + 1 → (is_at xs i ≡ true) ↔ P i) (sym pushed)
          (one_mark P found c.is_marked_term.result n c.loop-number.invariant.len c.loop-number.invariant.each new);
    }

pub returns : goal.returns
returns c e are =
    let page = seen c.args.page.now in
    let links = c.requires.links in
    let linked = links.len in
    let all : c.loop-number.number ≡ length (seen c.args.page.now).rows = omega arith in
    let len = c.loop-number.invariant.len in
    marks_counted page c.args.sequence.1 c.args.links.now links e c.args.marks.now are c.args.sequence.0 c.args.sequence.2 c.in_ok-counts.counts.items
    c.loop-number.found.items (omega (arith, all, len))
    (λ n w. c.in_ok-counts.ensures.each n (omega (arith, w, linked)))
    (λ n w. c.loop-number.invariant.each n (omega (arith, all, w)))
