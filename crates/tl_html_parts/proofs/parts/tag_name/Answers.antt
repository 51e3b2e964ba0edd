use Rattle.std.proofs.Common.{◌≡◌, ◌∙◌, ℕ, List, ap, arith, drop, subst}
use Rattle.std.proofs.lemmas.List.{drop_min}
use Rattle.tl_spec.specs.Lex.Grammar.{IsRun}
use Rattle.tl_html_parts.specs.Bytes.{is_name_byte}
use Rattle.tl_html_parts.specs.Places.{part_in}
use Rattle.tl_html_parts.specs.Inner.Tail.{past_opening}
use Rattle.tl_html_parts.proofs.Kept.{name_kept}
use Rattle.tl_html_parts.proofs.Rests.{Rest, rest-there}
use Rattle.tl_html_parts.proofs.Tags.{end_told, start_told}
use Rattle.tl_html_parts.proofs.parts.tag_name.Goals as goal

pub returns : goal.returns
returns c =
    let t : List ℕ = c.args.text.now in
    let bytes : List ℕ = drop c.args.start t in
    let name : List ℕ = part_in t c.word_at.result in
    let rest : List ℕ = drop c.word_at.result.end t in
    let begins : drop c.after_opening-from.result t ≡ past_opening bytes =
    c.after_opening-from.ensures.rest ∙ ap past_opening (ap (λ n. drop n t) c.min.ensures ∙ drop_min c.args.start t) in
    let run : IsRun is_name_byte (past_opening bytes) name rest = subst (λ s. IsRun is_name_byte s name rest) begins c.word_at.ensures.run in
    let some : Rest rest = rest-there rest in
    let start = c.word_at.ensures.start in
    let order = c.word_at.ensures.order in
    record {
      part = record {
        order = omega arith;
        within = c.word_at.ensures.within;
        plain = λ kept. name_kept name (c.word_at.ensures.plain kept);
      };
      start_told = λ attributes closes has mode tokens is start. start_told mode bytes name rest attributes closes tokens run has is start;
      end_told = λ mode tokens is end. end_told mode bytes name rest some.attributes some.closes tokens run some.has is end;
    }
