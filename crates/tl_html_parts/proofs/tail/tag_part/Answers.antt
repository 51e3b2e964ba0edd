use Rattle.std.proofs.Common.{◌∙◌, ℕ, List, arith, drop, sym}
use Rattle.tl_html_parts.specs.Places.{part_in}
use Rattle.tl_html_parts.proofs.Splits.{longer}
use Rattle.tl_html_parts.proofs.tail.tag_part.Goals as goal

pub returns-then-is_key_at : goal.returns-then-is_key_at
returns-then-is_key_at c =
    let t : List ℕ = c.args.text.now in
    let from : ℕ = c.args.from in
    let at : ℕ = c.after_blank-at.result in
    let found = c.attribute_at.result in
    let own = c.attribute_at.ensures in
    let blank = c.after_blank-at.ensures.order in
    let ends = own.order in
    record {
      attribute = record {
        key = own.key;
        value = own.value;
        order = omega arith;
        within = own.within;
        rest = λ more closes has tag.
            longer tag (drop from t) (drop found.end t) (part_in t found.key) (part_in t found.value) more closes
            (c.after_blank-at.ensures.tokens tag ∙ own.tokens tag)
            (has _);
      };
      goes_on = λ start e h. own.tag start e (c.after_blank-at.ensures.tag start e h);
    }

pub returns : goal.returns
returns c =
    let own = c.after_blank-at.ensures in
    record {
      tokens = own.tokens;
      no_key = sym c.is_key_at.ensures ∙ c.if-is_key_at.false;
      no_blank = own.front;
      goes_on = own.tag;
      order = own.order;
      within = own.within;
    }
