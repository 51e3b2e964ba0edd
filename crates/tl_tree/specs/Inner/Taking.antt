-- What is done with a token that has its number.
use Rattle.std.specs.Prelude.{Bool, if◌then◌else◌, ◌&&◌}
use Rattle.tl_dom_spec.specs.Builder.{Again, Builder, Token, repeated}
use Rattle.tl_dom_spec.specs.Dispatcher.{bound, calm, count_token, dispatch, is_line_feed, marks_behind}

abbrev pub is_skipped : Builder → Token → Bool
is_skipped b token = b.skips && is_line_feed token

-- before it is counted
abbrev pub taken : Builder → Token → Builder
taken b token =
    if is_skipped b token then calm b else repeated (bound b) (dispatch token) (Again (calm b))

-- and afterwards: `token_done` of the token without a number
abbrev pub token_taken : Builder → Token → Builder
token_taken b token =
    record (count_token (taken b token)) { marks = marks_behind b.marks token }
