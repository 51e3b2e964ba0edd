use Rattle.std.proofs.Common.{ℕ, ◌-◌, length, length-drop, take_all, drop, List, arith}
use Rattle.tl_text.proofs.split.bytes_after.Goals as goal

-- src/part.rt:26:1
pub returns : goal.returns
returns c =
    let s : List ℕ = c.args.bytes.now in
    take_all (length s - c.args.count) (drop c.args.count s) (rw length-drop (omega arith))
