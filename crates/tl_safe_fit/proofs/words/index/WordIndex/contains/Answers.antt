use Rattle.std.proofs.Common.{ap, sym, arith, ◌∙◌}
use Rattle.std.specs.Str.{bytes_eq}
use Rattle.tl_safe_fit.proofs.Found.{falls, found, reached_first, reached_next}
use Rattle.tl_safe_fit.proofs.words.index.WordIndex.contains.Goals as goal

pub loop-link-init : goal.loop-link-init
loop-link-init c =
    let s = c.args.self.now in
    reached_first s.rows.items s.heads.items c.args.word.now c.slot_of.result c.index-link.result.now s.heads_of_rows s.slots
    c.slot_of.ensures.is c.slot_of.ensures.within c.index-link.ensures

pub returns-then-eq : goal.returns-then-eq
returns-then-eq c =
    found c.args.self.now.rows.items c.args.word.now c.loop-link.link c.index-row.result.now c.loop-link.invariant (omega arith) c.index-row.ensures
    (ap (bytes_eq c.args.word.now) (sym c.as_bytes.ensures.value) ∙ sym c.eq.ensures ∙ c.if-eq.true)

pub loop-link-smaller : goal.loop-link-smaller
loop-link-smaller c =
    falls c.args.self.now.rows.items c.args.word.now c.loop-link.link c.index-row.result.now c.loop-link.invariant (omega arith) c.index-row.ensures c.args.self.now.linked

pub loop-link-preserved : goal.loop-link-preserved
loop-link-preserved c =
    reached_next c.args.self.now.rows.items c.args.word.now c.loop-link.link c.index-row.result.now c.loop-link.invariant (omega arith) c.index-row.ensures c.args.self.now.linked
    (ap (bytes_eq c.args.word.now) (sym c.as_bytes.ensures.value) ∙ sym c.eq.ensures ∙ c.if-eq.false)
