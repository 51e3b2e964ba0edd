use Rattle.std.proofs.Common.{List, ap, arith, false, inl, inr, length, refl, subst, sym, ℕ, ◌∙◌, ◌≡◌}
use Rattle.std.proofs.lemmas.Bool.{cases_Bool}
use Rattle.tl_dom_spec.specs.Builder.{Builder}
use Rattle.tl_dom_spec.specs.Driver.{builder}
use Rattle.tl_html_parts.specs.Fronts.{IsMarkupFront}
use Rattle.tl_html_tokens.specs.Driving.{is_start, state_set}
use Rattle.tl_html_tokens.specs.Emits.{AreEmits}
use Rattle.tl_html_tokens.specs.Fronts.{IsFront}
use Rattle.tl_html_tokens.specs.declared.front.Front.{Front}
use Rattle.tl_html_tokens.specs.declared.mode.Mode.{Mode}
use Rattle.tl_html_tokens.specs.declared.mode.Mode.TheVariants as modes
use Rattle.tl_html_tokens.specs.declared.stage.TokenKind.{TokenKind}
use Rattle.tl_tree.proofs.ReadOn.{front-on}
use Rattle.tl_tree.proofs.Sourced.{front-sourced}
use Rattle.tl_tree.specs.Inner.Builders.{builder_of, token_of}
use Rattle.tl_tree.specs.Inner.Reading.{left_of}
use Rattle.tl_tree.specs.Inner.Said.{piece_at}
use Rattle.tl_tree.proofs.reader.Reader.take_tag.Goals as goal

-- behind a start tag the mode isn't asked for
same-state : (b : Builder) (kind : TokenKind) (end : ℕ) (m n : Mode) → (is_start kind ≡ false → n ≡ m) → state_set builder b (record { kind = kind; end = end; mode = m }) ≡ state_set builder b (record { kind = kind; end = end; mode = n })
same-state b kind end m n plain = elim (cases_Bool (is_start kind)) [
  | inl y ↦ rw y refl
  | inr e ↦ ap (λ (x : Mode). state_set builder b (record { kind = kind; end = end; mode = x })) (sym (plain e))
]

pub keep_source-requires-clause-order : goal.keep_source-requires-clause-order
keep_source-requires-clause-order c = let order = c.requires.read.front.front.order in omega (arith, order)

pub keep_source-requires-clause-short : goal.keep_source-requires-clause-short
keep_source-requires-clause-short c =
    let r = c.args.self.now in
    let short = r.builder.path.store.short in
    let same = ap length r.same in
    let within = c.requires.read.front.front.within in
    omega (arith, short, same, within)

pub invariant_of-self-in-Break-branch-2 : goal.invariant_of-self-in-Break-branch-2
unfolding token_of
invariant_of-self-in-Break-branch-2 c =
    let r = c.args.self.now in
    record { within = r.within; same = c.take_tag.ensures.page ∙ r.same }

pub invariant_of-self-2 : goal.invariant_of-self-2
unfolding token_of
invariant_of-self-2 c =
    let r = c.args.self.now in
    record { within = c.requires.read.front.front.within; same = c.take_tag.ensures.page ∙ r.same }

pub returns-clause-ok : goal.returns-clause-ok
unfolding left_of
returns-clause-ok c =
    let r = c.args.self.now in
    let f : IsMarkupFront r.page.now r.at c.args.tag.kind c.args.tag.end = c.requires.read.front in
    let front : Front = record { kind = c.args.tag.kind; end = c.args.tag.end; mode = f.mode } in
    let b' = builder_of c.take_tag.new.self in
    front-on (builder_of r.builder) b' r.page.now r.at r.mode c.mode_behind-self.result front
    (subst (λ (m : Mode). IsFront r.page.now r.at m front) (sym c.requires.mode) f.front) c.requires.open
    (λ emits told.
    c.in_ok-take_tag.ensures.ok emits
    (subst (λ (page : List ℕ). AreEmits modes.Data (piece_at page r.at c.args.tag.end) c.args.tag.kind emits) (sym r.same)
    (subst (λ (m : Mode). AreEmits m (piece_at r.page.now r.at c.args.tag.end) c.args.tag.kind emits) c.requires.mode told)))
    (c.mode_behind-self.ensures ∙ same-state b' c.args.tag.kind c.args.tag.end modes.Data f.mode f.plain)

pub returns-clause-sources : goal.returns-clause-sources
returns-clause-sources c begin marks kept =
    let r = c.args.self.now in
    let f : IsMarkupFront r.page.now r.at c.args.tag.kind c.args.tag.end = c.requires.read.front in
    let front : Front = record { kind = c.args.tag.kind; end = c.args.tag.end; mode = f.mode } in
    let b' = builder_of c.take_tag.new.self in
    front-sourced begin marks r _ front
    (subst (λ (m : Mode). IsFront r.page.now r.at m front) (sym c.requires.mode) f.front) c.requires.open
    (λ emits told.
    c.in_ok-take_tag.ensures.ok emits
    (subst (λ (page : List ℕ). AreEmits modes.Data (piece_at page r.at c.args.tag.end) c.args.tag.kind emits) (sym r.same)
    (subst (λ (m : Mode). AreEmits m (piece_at r.page.now r.at c.args.tag.end) c.args.tag.kind emits) c.requires.mode told)))
    (c.mode_behind-self.ensures ∙ same-state b' c.args.tag.kind c.args.tag.end modes.Data f.mode f.plain)
    refl c.in_ok-keep_source.ensures kept
