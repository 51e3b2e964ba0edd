use Rattle.std.proofs.Common.{List, ap, arith, length, refl, subst, sym, ℕ, ◌∙◌}
use Rattle.tl_html_tokens.specs.Emits.{AreEmits}
use Rattle.tl_tree.proofs.ReadOn.{front-on}
use Rattle.tl_tree.specs.Inner.Builders.{builder_of, token_of}
use Rattle.tl_tree.specs.Inner.Reading.{left_of}
use Rattle.tl_tree.specs.Inner.Said.{piece_at}
use Rattle.tl_tree.proofs.reader.Reader.take_token.Goals as goal
use Rattle.tl_tree.proofs.Sourced.{front-sourced}

pub keep_source-requires-clause-order : goal.keep_source-requires-clause-order
keep_source-requires-clause-order c = let order = c.requires.front.order in omega (arith, order)

pub keep_source-requires-clause-short : goal.keep_source-requires-clause-short
keep_source-requires-clause-short c =
    let r = c.args.self.now in
    let short = r.builder.path.store.short in
    let same = ap length r.same in
    let within = c.requires.front.within in
    omega (arith, short, same, within)

pub invariant_of-self-in-Break-branch-2 : goal.invariant_of-self-in-Break-branch-2
unfolding token_of
invariant_of-self-in-Break-branch-2 c =
    let r = c.args.self.now in
    record { within = r.within; same = c.take_front.ensures.page ∙ r.same }

pub invariant_of-self-2 : goal.invariant_of-self-2
unfolding token_of
invariant_of-self-2 c =
    let r = c.args.self.now in
    record { within = c.requires.front.within; same = c.take_front.ensures.page ∙ r.same }

pub returns-clause-ok : goal.returns-clause-ok
unfolding left_of
returns-clause-ok c =
    let r = c.args.self.now in
    front-on (builder_of r.builder) (builder_of c.take_front.new.self) r.page.now r.at r.mode c.mode_behind-self.result c.args.front
    c.requires.front c.requires.open
    (λ emits told.
    c.in_ok-take_front.ensures.ok emits
    (subst (λ (page : List ℕ). AreEmits r.mode (piece_at page r.at c.args.front.end) c.args.front.kind emits) (sym r.same) told))
    c.mode_behind-self.ensures

pub returns-clause-sources : goal.returns-clause-sources
returns-clause-sources c begin marks kept =
    let r = c.args.self.now in
    front-sourced begin marks r _ c.args.front c.requires.front c.requires.open
    (λ emits told.
    c.in_ok-take_front.ensures.ok emits
    (subst (λ (page : List ℕ). AreEmits r.mode (piece_at page r.at c.args.front.end) c.args.front.kind emits) (sym r.same) told))
    c.mode_behind-self.ensures refl c.in_ok-keep_source.ensures kept
