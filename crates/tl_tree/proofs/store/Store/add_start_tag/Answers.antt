use Rattle.std.proofs.Common.{Some, ap, arith, suc, ℕ, ◌∙◌, ◌≡◌}
use Rattle.std.proofs.lemmas.Result.{IfOk-weaker}
use Rattle.tl_dom_spec.specs.Tags as dom
use Rattle.tl_tree.specs.Inner.Store.{source_of, tag_of}
use Rattle.tl_tree.specs.declared.entries.TagEntry.{TagEntry}
use Rattle.tl_tree.specs.declared.store.Store.{Store}
use Rattle.tl_tree.proofs.store.Store.add_start_tag.Goals as goal

-- a tag with a number
numbered-tag : (s : Store) (own : TagEntry) (next n : ℕ) → next ≡ suc n → tag_of s (record own { start = next }) ≡ record (tag_of s own) { source = Some n }
unfolding tag_of
numbered-tag s own next n e = ap (λ (k : ℕ). record (tag_of s own) { source = source_of k }) e

pub returns-clause-tag : goal.returns-clause-tag
returns-clause-tag c =
    let next = c.in-Some.ensures in
    IfOk-weaker c.add_tag.result _ _
    (λ number e.
    e
    ∙ (numbered-tag c.start_tag.new.store c.in_ok-said.said c.in-Some.next c.args.source (omega (arith, next))
    ∙ ap (λ (tag : dom.Tag). record tag { source = Some c.args.source }) c.in_ok-said.ensures.tag))
    c.add_tag.ensures.stands
