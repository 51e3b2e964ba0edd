use Rattle.std.proofs.Common.{rules, ℕ, ◌+◌, List, arith, get_or}
use Rattle.std.proofs.lemmas.List.Sorted.{answers_always}
use Rattle.std.specs.declared.cmp.Reverse.{Reverse}
use Rattle.tl_patch_edit.specs.declared.ask.PlacedAsk.{PlacedAsk}
use Rattle.tl_patch_edit.proofs.Turns.{in_turn, key_not_less, on_ok}
use Rattle.tl_patch_edit.proofs.several.sort_asks.Goals as goal

key : PlacedAsk → ℕ × ℕ × Reverse ℕ × ℕ × ℕ
key a = (a.ask.from, a.ask.until, record { 0 = a.turn.depth }, a.turn.rank, a.turn.at)

pub returns-clause-in_turn : goal.returns-clause-in_turn
unfolding key
returns-clause-in_turn c =
    let asks : List PlacedAsk = c.sort_by_key.new.self.items in
    on_ok c.sort_by_key.result _ _ (λ s. in_turn asks (λ k d l. key_not_less (get_or asks (k + 1) d) (get_or asks k d) (s key (answers_always _ _ _ (λ f a r g h. search rules)) k d (omega arith) l))) c.sort_by_key.ensures.sorted
