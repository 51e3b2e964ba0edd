use Rattle.std.proofs.Common.{◌≡◌, ◌+◌, ◌-◌, length, refl, ap, sym, subst, ◌∙◌, arith, rules}
use Rattle.tl_css.specs.declared.text.state.Taken.{Taken}
use Rattle.tl_css.specs.ItemView.{item}
use Rattle.tl_css.specs.Reading.{State, within_by}
use Rattle.tl_css.specs.Relative.{item_by}
use Rattle.tl_css.specs.StateView as v
use Rattle.tl_css.specs.StateView.{IsFailure, open_list, state}
use Rattle.tl_css.proofs.Items.{first_wrong, not_both, ok_of, read_done, read_failed, read_first, read_goes, read_stops}
use Rattle.tl_css.proofs.text.read_by.Goals as goal

pub items-init : goal.items-init
items-init c =
    let text = c.args.text.now in
    record {
      reads = ap (λ (st : State). within_by (item_by c.args.relative) (length text + 1) st text) c.new-state.ensures ∙ read_first c.args.relative text;
      first = λ w plain e. (refl, ap (λ (st : State). st.open_) c.new-state.ensures);
    }

pub returns-in_err-selector-clause-read : goal.returns-in_err-selector-clause-read
returns-in_err-selector-clause-read c =
    let failure = c.in_err-selector.field-0.0 in
    let fact = subst (IsFailure failure) c.items.invariant.reads
    (read_failed (item_by c.args.relative) c.items.items (state c.items.state) c.items.left.now (item c.in-Ok.found.0) c.in-Ok.found.1.now failure c.in-Ok.ensures c.in_err-selector.ensures) in
    search (rules, fact)

pub returns-in_err-selector-clause-first : goal.returns-in_err-selector-clause-first
returns-in_err-selector-clause-first c = λ w plain e.
    let at = c.items.invariant.first w plain e in
    absurd (not_both _ w _ c.in-Ok.ensures (first_wrong c.args.relative (open_list c.items.state.open) c.items.left.now c.args.text.now w plain at.0 at.1 e))

pub items-preserved : goal.items-preserved
items-preserved c =
    let n = c.items.items in
    let more = c.if-items-eq0.false in
    let same : n - 1 + 1 ≡ n = grind arith in
    let goes = c.in_ok-selector.ensures ∙ ap (λ (t : Taken). ok_of (v.taken t)) c.in-Goes.is in
    record {
      reads = ap (λ n. within_by (item_by c.args.relative) n (state c.in-Goes.after) c.in-Ok.found.1.now) same
          ∙ (sym (read_goes (item_by c.args.relative) n (state c.items.state) c.items.left.now (item c.in-Ok.found.0) c.in-Ok.found.1.now (state c.in-Goes.after) c.in-Ok.ensures goes)
          ∙ c.items.invariant.reads);
      first = λ w plain e.
          let at = c.items.invariant.first w plain e in
          absurd (not_both _ w _ c.in-Ok.ensures (first_wrong c.args.relative (open_list c.items.state.open) c.items.left.now c.args.text.now w plain at.0 at.1 e));
    }

pub returns-in-Err-clause-read : goal.returns-in-Err-clause-read
returns-in-Err-clause-read c =
    sym c.items.invariant.reads
    ∙ read_stops (item_by c.args.relative) c.items.items (state c.items.state) c.items.left.now c.in-Err.wrong c.in-Err.ensures

pub returns-in-Done-clause-read : goal.returns-in-Done-clause-read
returns-in-Done-clause-read c =
    let ends = c.in_ok-selector.ensures ∙ ap (λ (t : Taken). ok_of (v.taken t)) c.in-Done.is in
    sym c.items.invariant.reads
    ∙ read_done (item_by c.args.relative) c.items.items (state c.items.state) c.items.left.now (item c.in-Ok.found.0) c.in-Ok.found.1.now c.in-Done.selector c.in-Ok.ensures ends

pub returns-then-items-eq0-clause-read : goal.returns-then-items-eq0-clause-read
returns-then-items-eq0-clause-read c =
    let goes = c.in_ok-selector.ensures ∙ ap (λ (t : Taken). ok_of (v.taken t)) c.in-Goes.is in
    sym c.items.invariant.reads
    ∙ (read_goes (item_by c.args.relative) c.items.items (state c.items.state) c.items.left.now (item c.in-Ok.found.0) c.in-Ok.found.1.now (state c.in-Goes.after) c.in-Ok.ensures goes
    ∙ ap (λ n. within_by (item_by c.args.relative) n (state c.in-Goes.after) c.in-Ok.found.1.now) c.if-items-eq0.true)
