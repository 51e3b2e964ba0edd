use Rattle.std.proofs.Common.{◌≡◌, ℕ, List, [], ◌++◌, Option, None, Some, option_map, subst, take}
use Rattle.std.specs.Prelude.{IfSome}
use Rattle.tl_cli.specs.declared.pages.TheConstants.{TOO_LONG}
use Rattle.tl_cli.proofs.pages.page_in.Goals as goal

-- the bytes that a reader has left, up to a limit
limited : (left : Option (List ℕ)) (page : List ℕ) (n limit : ℕ) → n ≡ limit → IfSome (option_map (take n) left) (λ xs. page ≡ [] ++ xs)
    → IfSome left (λ bytes. page ≡ take limit bytes)
limited None page n limit same is = tt
limited (Some bytes) page n limit same is = let own : page ≡ take n bytes = is in cc

pub returns : goal.returns
returns g c =
    let taken = c.take.result in
    let page : List ℕ = c.read_to_end.new.buf.items in
    let read = subst (λ (old : List ℕ). IfSome (option_map (take taken.limit) (g.R.Read.remaining taken.inner)) (λ xs. page ≡ old ++ xs))
    c.new-page.ensures.items c.in_ok-read_to_end.ensures.bytes in
    subst (λ reader. IfSome (g.R.Read.remaining reader) (λ bytes. page ≡ take TOO_LONG bytes)) c.take.ensures.inner
    (limited (g.R.Read.remaining taken.inner) page taken.limit TOO_LONG c.take.ensures.limit read)
