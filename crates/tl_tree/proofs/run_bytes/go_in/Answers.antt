use Rattle.std.proofs.Common.{refl, true, ◌≡◌}
use Rattle.std.specs.Char.{is_ascii_whitespace}
use Rattle.std.specs.List.{list_all}
use Rattle.tl_dom_spec.specs.Runs.{goes_in}
use Rattle.tl_tree.proofs.RunBytes.{all-any, filter-as, on-each, on-equal, on-true}
use Rattle.tl_tree.specs.Inner.Modes.{mode_of}
use Rattle.tl_tree.specs.Inner.RunBytes.{is_not_null}
use Rattle.tl_tree.proofs.run_bytes.go_in.Goals as goal

pub returns-then-takes_others : goal.returns-then-takes_others
returns-then-takes_others c =
    on-true c.has_no_null.result
    (filter-as (goes_in (mode_of c.args.mode)) is_not_null c.if-takes_others.ensures c.args.bytes.now) c.has_no_null.ensures

pub returns-then-takes_white_alone : goal.returns-then-takes_white_alone
returns-then-takes_white_alone c =
    on-equal c.are_white.result (list_all is_ascii_whitespace c.args.bytes.now) c.are_white.ensures
    (filter-as (goes_in (mode_of c.args.mode)) is_ascii_whitespace c.if-takes_white_alone.ensures c.args.bytes.now)

pub returns : goal.returns
returns c =
    let bytes = c.args.bytes.now in
    let test = goes_in (mode_of c.args.mode) in
    on-each (λ x. test x ≡ true) c.takes_all.result
    (λ all. filter-as test test (λ x. refl) bytes (all-any test all bytes)) c.takes_all.ensures
