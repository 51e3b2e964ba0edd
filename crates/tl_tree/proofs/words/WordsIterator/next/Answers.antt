use Rattle.std.proofs.Common.{arith, rules, sym, ◌≤◌, length, ◌∙◌}
use Rattle.std.proofs.lemmas.List.Sums.{prefix_len-le-length}
use Rattle.std.specs.Char.{is_ascii_whitespace}
use Rattle.tl_tree.proofs.WordLists.{empty-is, filled-is, in-word, word-none, word-some}
use Rattle.tl_tree.proofs.words.WordsIterator.next.Goals as goal

pub split_at-requires : goal.split_at-requires
split_at-requires c =
    let most = prefix_len-le-length is_ascii_whitespace c.self.inside.left.now in
    let is = c.white_len.ensures in
    omega (arith, most, is)

pub split_at-requires-2 : goal.split_at-requires-2
split_at-requires-2 c =
    let most = prefix_len-le-length in-word c.split_at.result.1.now in
    let is = c.word_len.ensures in
    omega (arith, most, is)

pub returns-then-is_empty-clause-steps : goal.returns-then-is_empty-clause-steps
returns-then-is_empty-clause-steps c =
    let most = prefix_len-le-length in-word c.split_at.result.1.now in
    let is = c.word_len.ensures in
    let within : c.word_len.result ≤ length c.split_at.result.1.now = omega (arith, most, is) in
    let none = word-none c.self.inside.left.now c.split_at.result.1.now c.split_at-2.result.0.now c.split_at-2.result.1.now c.white_len.result c.word_len.result c.white_len.ensures c.split_at.ensures.back c.word_len.ensures within c.split_at-2.ensures.front c.split_at-2.ensures.back (empty-is c.split_at-2.result.0.now c.is_empty.result c.is_empty.ensures c.if-is_empty.true) in
    (sym c.self.view_is ∙ none.0, none.1)

pub returns-clause-steps : goal.returns-clause-steps
returns-clause-steps c =
    let most = prefix_len-le-length in-word c.split_at.result.1.now in
    let is = c.word_len.ensures in
    let within : c.word_len.result ≤ length c.split_at.result.1.now = omega (arith, most, is) in
    sym c.self.view_is ∙ word-some c.self.inside.left.now c.split_at.result.1.now c.split_at-2.result.0.now c.split_at-2.result.1.now c.white_len.result c.word_len.result c.white_len.ensures c.split_at.ensures.back c.word_len.ensures within c.split_at-2.ensures.front c.split_at-2.ensures.back (filled-is c.split_at-2.result.0.now c.is_empty.result c.is_empty.ensures c.if-is_empty.false)

pub returns-clause-goes : goal.returns-clause-goes
returns-clause-goes c =
    let steps = returns-clause-steps c in
    search (rules, steps)
