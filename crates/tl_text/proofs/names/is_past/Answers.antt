use Rattle.std.proofs.Common.{◌==◌, List, ℕ, sym, subst, ◌≡◌, ◌<◌, length, arith, ◌∙◌, true, nat_lt, slice_index_or, ap}
use Rattle.std.specs.List.{common_prefix_len}
use Rattle.std.proofs.lemmas.Bool.{eq-eqb, le-ltb}
use Rattle.std.proofs.lemmas.List.Sums.{common_prefix_len-le}
use Rattle.tl_text.specs.Inner.Order.{is_past}
use Rattle.tl_text.proofs.Order.{past_all, past_at, past_short}
use Rattle.tl_text.proofs.names.is_past.Goals as goal

-- the bytes go on where they aren't shared to their end
goes_on : (n s : List ℕ) (k : ℕ) → k ≡ common_prefix_len ◌==◌ n s → (k ≡ length s → ⊥) → k < length s
goes_on n s k e ne = let le = common_prefix_len-le ◌==◌ n s in omega (arith, le.1)

at_end : (n s : List ℕ) (k : ℕ) → k ≡ common_prefix_len ◌==◌ n s → k < length n → k ≡ length s → true ≡ is_past n s
at_end n s k e l m = sym (past_short n s (subst (λ x. x < length n) e l) (sym e ∙ m))

at_both : (n s : List ℕ) (k : ℕ) → k ≡ common_prefix_len ◌==◌ n s → k < length n → k < length s → nat_lt (slice_index_or s k 0) (slice_index_or n k 0) ≡ is_past n s
at_both n s k e l m = ap (λ x. nat_lt (slice_index_or s x 0) (slice_index_or n x 0)) e ∙ sym (past_at n s (subst (λ x. x < length n) e l) (subst (λ x. x < length s) e m))

pub bounds-bytes-shared : goal.bounds-bytes-shared
bounds-bytes-shared c = goes_on c.args.name.now c.args.bytes.now c.args.shared c.requires c.if-shared-bytes.false

pub returns-then-shared-bytes : goal.returns-then-shared-bytes
returns-then-shared-bytes c = eq-eqb c.args.shared (length c.args.bytes.now) c.if-shared-bytes.true ∙ at_end c.args.name.now c.args.bytes.now c.args.shared c.requires c.if-shared-name.true c.if-shared-bytes.true

pub returns-else-shared-bytes : goal.returns-else-shared-bytes
returns-else-shared-bytes c = at_both c.args.name.now c.args.bytes.now c.args.shared c.requires c.if-shared-name.true (goes_on c.args.name.now c.args.bytes.now c.args.shared c.requires c.if-shared-bytes.false)

pub returns-else-shared-name : goal.returns-else-shared-name
returns-else-shared-name c = le-ltb c.args.shared (length c.args.name.now) c.if-shared-name.false ∙ sym (past_all c.args.name.now c.args.bytes.now (let e = c.requires in let l = c.if-shared-name.false in omega arith))
