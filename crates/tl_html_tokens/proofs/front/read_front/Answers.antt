use Rattle.std.proofs.Common.{Bool, true, false, not, refl, true≢false, List, drop, length-drop, ◌<◌, ◌≡◌, ◌+◌, length, subst, sym, ◌∙◌, arith, ℕ, ◌≤◌}
use Rattle.tl_html_tokens.specs.Fronts.{IsFront}
use Rattle.tl_html_tokens.specs.declared.stage.TokenKind.{TokenKind}
use Rattle.std.proofs.lemmas.List.{take_rest}
use Rattle.tl_html_tokens.specs.declared.front.Scan.{Scan}
use Rattle.tl_html_tokens.proofs.Passing.{pass_on}
use Rattle.tl_html_tokens.proofs.Ending.{scan_end, whole_end}
use Rattle.tl_html_tokens.specs.declared.front.Front.{Front}
use Rattle.tl_html_tokens.specs.declared.mode.Mode.{Mode}
use Rattle.tl_html_tokens.specs.declared.stage.Stage.TheVariants.{Whole}
use Rattle.tl_html_tokens.proofs.Beginning.{begun_to}
use Rattle.tl_html_tokens.proofs.Through.{attributes_on}
use Rattle.tl_html_tokens.proofs.Reading.{Follows, IsScan, scan_next}
use Rattle.tl_html_tokens.proofs.front.read_front.Goals as goal

pub bare_tag-requires-clause-order : goal.bare_tag-requires-clause-order
bare_tag-requires-clause-order c =
    let b = c.begin.ensures in
    let q = c.pass_quiet-begun.ensures in
    (begun_to c.args.page.now c.args.start c.args.mode c.begin.result.at c.pass_quiet-begun.result.at c.begin.result.scan c.pass_quiet-begun.result.scan c.requires b.read b.order b.within q.order q.within q.quiet q.scan).order

pub returns-in-Some : goal.returns-in-Some
returns-in-Some c =
    let page : List ℕ = c.args.page.now in
    let start : ℕ = c.args.start in
    let m : Mode = c.args.mode in
    let at : ℕ = c.pass_quiet-begun.result.at in
    let b = c.begin.ensures in
    let q = c.pass_quiet-begun.ensures in
    let front : Front = c.in-Some.front in
    let said = c.in-Some.ensures in
    let end : front.end ≡ at + 1 = said.end in
    let inside : front.end ≤ length page = said.inside in
    let h = begun_to page start m c.begin.result.at at c.begin.result.scan c.pass_quiet-begun.result.scan c.requires b.read b.order b.within q.order q.within q.quiet q.scan in
    let next : Scan = record { stage = Whole front.kind front.mode; after_return = false; word = front.end } in
    let on : IsScan page start m (at + 1) next =
    subst (Follows page start m at) said.read (scan_next page start m at c.pass_quiet-begun.result.scan h (omega arith)) in
    subst (λ p. IsFront page start m (record { kind = front.kind; end = p; mode = front.mode })) (sym end)
    (whole_end page start m front.mode front.kind (at + 1) next on refl refl (omega arith))

pub loop-at-init : goal.loop-at-init
loop-at-init c =
    let b = c.begin.ensures in
    let q = c.pass_quiet-begun.ensures in
    record {
      scan = begun_to c.args.page.now c.args.start c.args.mode c.begin.result.at c.pass_quiet-begun.result.at c.begin.result.scan c.pass_quiet-begun.result.scan c.requires b.read b.order b.within q.order q.within q.quiet q.scan;
      within = q.within;
    }

pub loop-at-preserved : goal.loop-at-preserved
loop-at-preserved c =
    let page : List ℕ = c.args.page.now in
    let start : ℕ = c.args.start in
    let i : ℕ = c.loop-at.at in
    let next : Scan = c.in-On.next in
    let len : ℕ = c.quiet_len-len.result in
    let all = length-drop (i + 1) page in
    let t : i < length page = c.loop-at-test.true in
    let quiet = rw take_rest at c.quiet_len-len.ensures.quiet in
    let some : len ≤ length (drop (i + 1) page) = rw take_rest at c.quiet_len-len.ensures.within in
    let h : IsScan page start c.args.mode (i + 1) next =
    subst (Follows page start c.args.mode i) (sym c.next_scan.ensures ∙ c.in-On.is)
    (scan_next page start c.args.mode i c.loop-at.scan c.loop-at.invariant.scan t) in
    let inside : i + 1 + len ≤ length page = omega arith in
    record {
      scan = subst (IsScan page start c.args.mode (i + 1 + len)) (sym c.skip_quiet-scan.ensures) (pass_on page start c.args.mode (i + 1) len next h inside quiet);
      within = inside;
    }

is_off : (v : Bool) → not v ≡ true → v ≡ false
is_off true h = absurd (true≢false (sym h))
is_off false h = refl

pub loop-at-preserved-then-not-next-2 : goal.loop-at-preserved-then-not-next-2
loop-at-preserved-then-not-next-2 c =
    let page : List ℕ = c.args.page.now in
    let start : ℕ = c.args.start in
    let i : ℕ = c.loop-at.at in
    let next : Scan = c.in-On.next in
    let passed = c.pass_attributes-scan.ensures in
    let h : IsScan page start c.args.mode (i + 1) next =
    subst (Follows page start c.args.mode i) (sym c.next_scan.ensures ∙ c.in-On.is)
    (scan_next page start c.args.mode i c.loop-at.scan c.loop-at.invariant.scan c.loop-at-test.true) in
    record {
      scan = attributes_on page start c.args.mode (i + 1) c.in-BeforeKey.tag next c.pass_attributes-scan.result h c.in-BeforeKey.is (is_off next.after_return c.if-not-next-2.true)
          passed.order passed.within passed.returned passed.through passed.wordless;
      within = passed.within;
    }

pub loop-at-smaller : goal.loop-at-smaller
loop-at-smaller c =
    let t : c.loop-at.at < length c.args.page.now = c.loop-at-test.true in
    omega arith

pub returns-in-Whole : goal.returns-in-Whole
returns-in-Whole c =
    let page : List ℕ = c.args.page.now in
    let start : ℕ = c.args.start in
    let i : ℕ = c.loop-at.at in
    let next : Scan = c.in-On.next in
    let inside : i < length page = c.loop-at-test.true in
    let h : IsScan page start c.args.mode (i + 1) next =
    subst (Follows page start c.args.mode i) (sym c.next_scan.ensures ∙ c.in-On.is)
    (scan_next page start c.args.mode i c.loop-at.scan c.loop-at.invariant.scan inside) in
    whole_end page start c.args.mode c.in-Whole.mode c.in-Whole.kind (i + 1) next h c.in-Whole.is (is_off next.after_return c.if-not-next.true) (omega arith)

pub returns-in-Before : goal.returns-in-Before
returns-in-Before c =
    subst (Follows c.args.page.now c.args.start c.args.mode c.loop-at.at) (sym c.next_scan.ensures ∙ c.in-Before.is)
    (scan_next c.args.page.now c.args.start c.args.mode c.loop-at.at c.loop-at.scan c.loop-at.invariant.scan c.loop-at-test.true)

pub returns : goal.returns
returns c =
    let m = c.args.mode in
    let w = c.loop-at.invariant.within in
    let last : c.loop-at.at ≡ length c.args.page.now = omega arith in
    subst (λ (k : TokenKind). IsFront c.args.page.now c.args.start m (record { kind = k; end = length c.args.page.now; mode = m })) (sym c.kind_at_end.ensures)
    (scan_end c.args.page.now c.args.start m m c.loop-at.at c.loop-at.scan c.loop-at.invariant.scan last)
