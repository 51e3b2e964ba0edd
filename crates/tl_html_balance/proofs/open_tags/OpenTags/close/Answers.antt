use Rattle.std.proofs.Common.{◌≡◌, ◌-◌, ◌<◌, ap, ◌∙◌, get_or, vec_len, arith}
use Rattle.tl_html_balance.proofs.Opened.{Closed, closed-at, closed-names, closed-nested, closed-none}
use Rattle.tl_html_balance.proofs.open_tags.OpenTags.close.Goals as goal

pub invariant_of-self : goal.invariant_of-self
invariant_of-self c =
    let tags = c.args.self.now in
    let left = c.saturating_sub-left.result in
    let tag = c.in-Some.outermost.now in
    let some : left ≡ vec_len tags.tags - c.args.count = c.saturating_sub-left.ensures ∙ ap (λ n. n - c.args.count) c.len.ensures in
    let within : left < vec_len tags.tags = omega (arith, c.in-Some.ensures.lookup.3.0, c.deref.ensures.len) in
    let closed : Closed tags left c.args.count tag = closed-at tags c.args.count left tag some within (c.in-Some.ensures.lookup.1 ∙ ap (λ items. get_or items left tag) c.deref.ensures.value) in
    record { nested = closed-nested tags c.args.count left tag c.truncate-in-Some.new.self.items c.truncate.new.self.items closed c.truncate-in-Some.ensures.items c.truncate.ensures.items }

pub returns-in-Some : goal.returns-in-Some
returns-in-Some c =
    let tags = c.args.self.now in
    let left = c.saturating_sub-left.result in
    let tag = c.in-Some.outermost.now in
    let some : left ≡ vec_len tags.tags - c.args.count = c.saturating_sub-left.ensures ∙ ap (λ n. n - c.args.count) c.len.ensures in
    let within : left < vec_len tags.tags = omega (arith, c.in-Some.ensures.lookup.3.0, c.deref.ensures.len) in
    let closed : Closed tags left c.args.count tag = closed-at tags c.args.count left tag some within (c.in-Some.ensures.lookup.1 ∙ ap (λ items. get_or items left tag) c.deref.ensures.value) in
    closed-names tags _ c.args.count left tag closed c.truncate-in-Some.ensures.items c.truncate.ensures.items

pub returns-in_default : goal.returns-in_default
returns-in_default c =
    closed-none c.args.self.now c.args.count c.saturating_sub-left.result (c.saturating_sub-left.ensures ∙ ap (λ n. n - c.args.count) c.len.ensures) (omega (arith, c.in_default.ensures.lookup.3, c.deref.ensures.len))
