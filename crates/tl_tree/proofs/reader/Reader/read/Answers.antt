use Rattle.std.proofs.Common.{Err, Ok, OnOk, Result, ap, refl, subst, sym, true, ◌∙◌, ◌≡◌}
use Rattle.tl_dom_spec.specs.Builder.{Builder, end_of_file}
use Rattle.tl_dom_spec.specs.Dispatcher.{token_done}
use Rattle.tl_dom_spec.specs.HtmlTree.{is_little}
use Rattle.tl_tree.proofs.ReadOn.{whole}
use Rattle.tl_tree.specs.Inner.Builders.{Said, builder_of, token_of}
use Rattle.tl_tree.specs.Inner.Reading.{left_of}
use Rattle.tl_tree.proofs.reader.Reader.read.Goals as goal
use Rattle.tl_tree.proofs.Sourced.{end-sourced, out-at-end}
use Rattle.tl_tree.specs.Sources.{IsOutOfProportionAt}

on-any : {T E P : Type 0} (r : Result T E) → P → OnOk r P
on-any (Ok x) p = p
on-any (Err e) p = tt

on-little : {T E : Type 0} (r : Result T E) (b d : Builder) → b ≡ d → OnOk r (is_little b.excess ≡ true) → OnOk r (is_little d.excess ≡ true)
on-little (Ok x) b d e is = ap (λ (own : Builder). is_little own.excess) (sym e) ∙ is
on-little (Err x) b d e is = is

pub invariant_of-self : goal.invariant_of-self
unfolding token_of
invariant_of-self c =
    let r = c.read_on.new.self in
    record { within = r.within; same = ap (λ (said : Said). said.page) c.take_token.ensures.token ∙ r.same }

pub returns-clause-ok : goal.returns-clause-ok
returns-clause-ok c =
    on-any c.weigh.result
    (whole c.args.self.now c.read_on.new.self (builder_of c.take_token.new.self) c.in_ok-take_token.ensures.ok c.in_ok-read_on.ensures.end c.in_ok-read_on.ensures.ok)

pub returns-clause-little : goal.returns-clause-little
returns-clause-little c =
    let all = whole c.args.self.now c.read_on.new.self (builder_of c.take_token.new.self) c.in_ok-take_token.ensures.ok c.in_ok-read_on.ensures.end c.in_ok-read_on.ensures.ok in
    on-little c.weigh.result (builder_of c.take_token.new.self) (token_done (left_of c.args.self.now) end_of_file) all c.weigh.ensures.little

pub returns-clause-large : goal.returns-clause-large
returns-clause-large c at is =
    let all = whole c.args.self.now c.read_on.new.self (builder_of c.take_token.new.self) c.in_ok-take_token.ensures.ok c.in_ok-read_on.ensures.end c.in_ok-read_on.ensures.ok in
    ap (λ (d : Builder). is_little d.excess) (sym all) ∙ c.weigh.ensures.large at is

pub returns-clause-sources : goal.returns-clause-sources
returns-clause-sources c =
    on-any c.weigh.result
    (λ begin s.
    end-sourced c.args.self.now.page.now begin c.read_on.new.self (builder_of c.take_token.new.self) _ c.read_on.ensures.page refl
    c.in_ok-read_on.ensures.end c.in_ok-take_token.ensures.ok (c.in_ok-read_on.ensures.sources begin s))

pub returns-clause-place : goal.returns-clause-place
returns-clause-place c at is begin s little =
    let r = c.read_on.new.self in
    let page = c.args.self.now.page.now in
    subst (IsOutOfProportionAt page begin) (sym (c.weigh.ensures.place at is))
    (out-at-end begin page r (builder_of c.take_token.new.self) c.read_on.ensures.page c.in_ok-read_on.ensures.end c.in_ok-take_token.ensures.ok
    (c.in_ok-read_on.ensures.little little) (c.weigh.ensures.large at is) (c.in_ok-read_on.ensures.sources begin s))
