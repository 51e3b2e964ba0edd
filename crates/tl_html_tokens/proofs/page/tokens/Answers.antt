use Rattle.std.proofs.Common.{ℕ, ◌≡◌, List, [], ap, sym, subst, subst₂, ◌∙◌, arith}
use Rattle.tl_html_tokens.specs.Tokens.{AreTokensOf, mark_len}
use Rattle.tl_html_tokens.specs.declared.mode.Mode.TheVariants as mode
use Rattle.tl_html_tokens.specs.declared.token.Token.{Token}
use Rattle.tl_html_tokens.proofs.Joining.{IsRead, last_end, read_all, read_first, read_next, read_none, sides_of, token_of}
use Rattle.tl_html_tokens.proofs.page.tokens.Goals as goal

pub returns-then-start-page : goal.returns-then-start-page
returns-then-start-page c =
    let page : List ℕ = c.args.page.now in
    let all : AreTokensOf page c.new-tokens.result.items =
    subst (AreTokensOf page) (sym c.new-tokens.ensures.items) (read_none page (sym c.mark_len-start.ensures.bytes ∙ c.if-start-page.true)) in
    record { pieces = all; side_by_side = sides_of page c.new-tokens.result.items all }

pub loop-last-init : goal.loop-last-init
loop-last-init c =
    let page : List ℕ = c.args.page.now in
    let from : ℕ = c.mark_len-start.result in
    let front = c.next_front-first.result in
    let last : Token = token_of from mode.Data front in
    subst (λ ts. IsRead page (mark_len page) ts last front.mode) (sym c.new-tokens.ensures.items)
    (subst (λ n. IsRead page n [] last front.mode) c.mark_len-start.ensures.bytes (read_first page from front c.next_front-first.ensures))

pub loop-last-preserved : goal.loop-last-preserved
loop-last-preserved c =
    let page : List ℕ = c.args.page.now in
    let front = c.next_front-front.result in
    subst₂ (λ ts t. IsRead page (mark_len page) ts t front.mode) (sym c.in_ok-last.ensures.pushed) (sym c.in_ok-last.ensures.last)
    (read_next page (mark_len page) c.loop-last.tokens.items c.loop-last.last c.loop-last.mode c.loop-last.invariant front c.next_front-front.ensures)

pub loop-last-smaller : goal.loop-last-smaller
loop-last-smaller c =
    let front = c.next_front-front.result in
    let next : Token = token_of c.loop-last.last.end c.loop-last.mode front in
    let e : c.in_ok-last.last.end ≡ front.end = ap (λ (t : Token). t.end) c.in_ok-last.ensures.last ∙ last_end c.loop-last.last next in
    let o = c.next_front-front.ensures.order in
    let t = c.loop-last-test.true in
    omega arith

pub returns : goal.returns
returns c =
    let page : List ℕ = c.args.page.now in
    let all : AreTokensOf page c.push.new.self.items =
    subst (AreTokensOf page) (sym c.in_ok-push.ensures.items)
    (read_all page c.loop-last.tokens.items c.loop-last.last c.loop-last.mode c.loop-last.invariant (omega arith)) in
    record { pieces = all; side_by_side = sides_of page c.push.new.self.items all }
