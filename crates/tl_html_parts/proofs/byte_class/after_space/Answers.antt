use Rattle.std.proofs.Common.{◌≡◌, ◌∙◌, ◌+◌, ◌-◌, ℕ, List, ap, arith, drop, drop-drop, sym, take}
use Rattle.std.proofs.lemmas.List.{take_rest}
use Rattle.std.specs.List.{list_all, prefix_len}
use Rattle.tl_spec.proofs.Lex.Bytes.{all-run}
use Rattle.tl_html_parts.specs.Bytes.{is_space}
use Rattle.tl_html_parts.proofs.byte_class.after_space.Goals as goal

pub returns-clause-spaces : goal.returns-clause-spaces
returns-clause-spaces c =
    let t : List ℕ = c.args.text.now in
    let u : List ℕ = drop c.args.from t in
    let run : c.run_len.result ≡ prefix_len is_space u = c.run_len.ensures.run ∙ ap (prefix_len is_space) (take_rest t c.args.from) in
    let many : c.args.from + c.run_len.result - c.args.from ≡ c.run_len.result = omega arith in
    ap (λ n. list_all is_space (take n u)) (many ∙ run) ∙ all-run is_space u

pub returns-clause-rest : goal.returns-clause-rest
returns-clause-rest c =
    let t : List ℕ = c.args.text.now in
    let run : c.run_len.result ≡ prefix_len is_space (drop c.args.from t) = c.run_len.ensures.run ∙ ap (prefix_len is_space) (take_rest t c.args.from) in
    sym (drop-drop c.run_len.result c.args.from t) ∙ ap (λ n. drop n (drop c.args.from t)) run
