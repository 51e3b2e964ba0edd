use Rattle.std.proofs.Common.{◌≡◌, ◌∙◌, ◌-◌, ◌+◌, ◌≤◌, ℕ, Bool, List, true, ap, arith, drop, length, subst, sym, take}
use Rattle.std.proofs.lemmas.Bool.{and_parts, eqb-true}
use Rattle.std.proofs.lemmas.List.{take_rest}
use Rattle.std.specs.List.{list_all, prefix_len}
use Rattle.tl_html_parts.specs.Bytes.{is_kept, is_of, is_plain_of}
use Rattle.tl_html_parts.proofs.Modes.{all_of}
use Rattle.tl_html_parts.proofs.Splits.{word-IsRun}
use Rattle.tl_html_parts.proofs.byte_class.word_at.Goals as goal

pub returns-clause-run : goal.returns-clause-run
returns-clause-run c =
    let t : List ℕ = c.args.text.now in
    let u : List ℕ = drop c.args.from t in
    let has : ℕ → Bool = is_of c.args.class in
    let k : ℕ = c.plain_len.result in
    let plain : list_all (is_plain_of c.args.class) (take k u) ≡ true = ap (λ s. list_all (is_plain_of c.args.class) (take k s)) (sym (take_rest t c.args.from)) ∙ c.plain_len.ensures.plain in
    let within : k ≤ length u = subst (λ (s : List ℕ). k ≤ length s) (take_rest t c.args.from) c.plain_len.ensures.within in
    word-IsRun has t c.args.from k c.run_len.result
    (all_of (is_plain_of c.args.class) has (λ b h. (and_parts (has b) (is_kept c.args.class b) h).0) (take k u) plain) within
    (c.run_len.ensures.run ∙ ap (prefix_len has) (take_rest t (c.args.from + k)))

pub returns-clause-plain : goal.returns-clause-plain
returns-clause-plain c = λ same.
    let t : List ℕ = c.args.text.now in
    let u : List ℕ = drop c.args.from t in
    let kept : ℕ → Bool = is_kept c.args.class in
    let k : ℕ = c.plain_len.result in
    let plain : list_all (is_plain_of c.args.class) (take k u) ≡ true = ap (λ s. list_all (is_plain_of c.args.class) (take k s)) (sym (take_rest t c.args.from)) ∙ c.plain_len.ensures.plain in
    let end = eqb-true (c.args.from + k) (c.args.from + k + c.run_len.result) same in
    let many : c.args.from + k + c.run_len.result - c.args.from ≡ k = omega arith in
    ap (λ n. list_all kept (take n u)) many
    ∙ all_of (is_plain_of c.args.class) kept (λ b h. (and_parts (is_of c.args.class b) (kept b) h).1) (take k u) plain
