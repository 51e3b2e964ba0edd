use Rattle.std.proofs.Common.{◌≡◌, ◌+◌, ◌++◌, [], ◌∷◌, None, Err, drop, map, slice_get, string_bytes, ap, sym, subst, ◌∙◌}
use Rattle.std.proofs.lemmas.Result.{err_from_is_err_and}
use Rattle.tl_spec.specs.Print.Text.{text_of}
use Rattle.tl_spec.specs.Walk.{all_tags, first_fault, trees, walk}
use Rattle.tl_table.specs.TreeFault.{IsRefusal}
use Rattle.tl_table.specs.declared.errors.TreeError.TheVariants.{Dangling}
use Rattle.tl.specs.View.{node_view}
use Rattle.tl.proofs.Preorder.{dangles, fault-next, first-handle, next-handle, no_range, refused, texts-next}
use Rattle.tl.proofs.walk.text.write_texts_in_preorder.Goals as goal
use Rattle.tl.proofs.walk.text.write_texts_in_preorder.Goals.{After-range}

-- the handles from the next one on
cut : (c : After-range) → drop c.loop-handle.handle-index c.args.handles.now ≡ c.get_inner.result ∷ drop (c.loop-handle.handle-index + 1) c.args.handles.now
cut c = next-handle c.args.handles.now c.loop-handle.handle-index c.handle-item.result c.get_inner.result c.loop-handle-test.true c.handle-item.is c.get_inner.ensures

pub returns-in_err-range-clause-writes : goal.returns-in_err-range-clause-writes
returns-in_err-range-clause-writes c =
    let after = (goal.at.returns-in_err-range-clause-writes c).After-range in
    let nodes = map node_view c.args.nodes.now in
    let e = c.in_err-range.field-0.0 in
    let p = err_from_is_err_and c.from_residual.result c.from_residual.ensures.1 in
    let at : first_fault (walk all_tags nodes [] c.args.handles.now) ≡ first_fault (walk all_tags nodes [] (c.get_inner.result ∷ drop (c.loop-handle.handle-index + 1) c.args.handles.now)) =
    c.loop-handle.invariant.faults ∙ ap (λ hs. first_fault (walk all_tags nodes [] hs)) (cut after) in
    rw (p.1, p.2) (subst (λ f. IsRefusal f e) (sym at) (refused c.args.nodes.now c.requires c.get_inner.result (drop (c.loop-handle.handle-index + 1) c.args.handles.now) e c.in_err-range.ensures.range))

pub returns-in_err-range-clause-dangling : goal.returns-in_err-range-clause-dangling
returns-in_err-range-clause-dangling c = λ k first.
    let after = (goal.at.returns-in_err-range-clause-dangling c).After-range in
    let e = c.in_err-range.field-0.0 in
    let p = err_from_is_err_and c.from_residual.result c.from_residual.ensures.1 in
    let is : k ≡ c.get_inner.result =
    first-handle c.args.handles.now (drop (c.loop-handle.handle-index + 1) c.args.handles.now) c.loop-handle.handle-index c.get_inner.result k (c.loop-handle.invariant.first k first) (cut after) first.0 in
    let past : slice_get c.args.nodes.now c.get_inner.result ≡ None = ap (slice_get c.args.nodes.now) (sym is) ∙ first.1 in
    let found : e ≡ Dangling c.get_inner.result = dangles c.args.nodes.now c.requires c.get_inner.result e past c.in_err-range.ensures.range c.in_err-range.ensures.memory in
    p.1 ∙ ap Err (p.2 ∙ found ∙ ap Dangling (sym is))

pub returns-in_err-write_texts_among-clause-dangling : goal.returns-in_err-write_texts_among-clause-dangling
returns-in_err-write_texts_among-clause-dangling c = λ k first.
    let after = (goal.at.returns-in_err-write_texts_among-clause-dangling c).After-range in
    let is : k ≡ c.get_inner.result =
    first-handle c.args.handles.now (drop (c.loop-handle.handle-index + 1) c.args.handles.now) c.loop-handle.handle-index c.get_inner.result k (c.loop-handle.invariant.first k first) (cut after) first.0 in
    let past : slice_get c.args.nodes.now c.get_inner.result ≡ None = ap (slice_get c.args.nodes.now) (sym is) ∙ first.1 in
    absurd (no_range c.args.nodes.now c.requires c.get_inner.result _ past c.in_ok-range.ensures.range)

pub loop-handle-preserved : goal.loop-handle-preserved
loop-handle-preserved c =
    let after = (goal.at.loop-handle-preserved c).After-range in
    let nodes = map node_view c.args.nodes.now in
    let n = c.get_inner.result in
    let hs = drop (c.loop-handle.handle-index + 1) c.args.handles.now in
    let before : string_bytes c.args.out.now ++ text_of (trees (walk all_tags nodes [] c.args.handles.now)) ≡ string_bytes c.loop-handle.out ++ text_of (trees (walk all_tags nodes [] (n ∷ hs))) =
    c.loop-handle.invariant.bytes ∙ ap (λ hs. string_bytes c.loop-handle.out ++ text_of (trees (walk all_tags nodes [] hs))) (cut after) in
    record {
      bytes = texts-next c.args.nodes.now c.requires n hs c.in_ok-range.range.start c.in_ok-range.range.end _ (string_bytes c.loop-handle.out) (string_bytes c.write_texts_among.new.out)
          c.in_ok-range.ensures.range before c.in_ok-write_texts_among.ensures.ok;
      faults = c.loop-handle.invariant.faults ∙ ap (λ hs. first_fault (walk all_tags nodes [] hs)) (cut after) ∙ fault-next c.args.nodes.now c.requires n hs _ c.in_ok-range.ensures.range;
      first = λ k first.
          let is : k ≡ n = first-handle c.args.handles.now hs c.loop-handle.handle-index n k (c.loop-handle.invariant.first k first) (cut after) first.0 in
          let past : slice_get c.args.nodes.now n ≡ None = ap (slice_get c.args.nodes.now) (sym is) ∙ first.1 in
          absurd (no_range c.args.nodes.now c.requires n _ past c.in_ok-range.ensures.range);
    }
