use Rattle.std.proofs.Common.{◌≡◌, ◌∙◌, false, nat_eq, refl, rules, sym}
use Rattle.std.proofs.lemmas.Bool.{eq-eqb, false≢true, not-true}
use Rattle.tl_css.specs.View.{ident}
use Rattle.tl_names.specs.ElementNames.{name_of}
use Rattle.tl_tree_select.proofs.Looks.{known_is, name_seen}
use Rattle.tl_tree_select.proofs.look.Look.of_name.Goals as goal

pub returns-then-not-is_lower-clause-seen : goal.returns-then-not-is_lower-clause-seen
returns-then-not-is_lower-clause-seen c = λ page n h.
    let same : c.of-known.result ≡ name_of (ident c.args.name.now).lower = cc in
    name_seen page n (ident c.args.name.now) c.of-known.result same h

pub returns-then-ne-clause-seen : goal.returns-then-ne-clause-seen
returns-then-ne-clause-seen c = λ page n h.
    let same : c.of-known.result ≡ name_of (ident c.args.name.now).lower = cc in
    let lower : (ident c.args.name.now).lower ≡ (ident c.args.name.now).written = c.is_lower.ensures.0 (search rules) in
    let own : nat_eq c.of-known.result.number 159 ≡ false = not-true (nat_eq c.of-known.result.number 159) (sym c.ne.ensures ∙ c.if-ne.true) in
    (known_is page n (ident c.args.name.now) c.of-known.result same (λ e. false≢true (sym own ∙ eq-eqb c.of-known.result.number 159 e)) lower).0 h

pub returns-then-ne-clause-passes : goal.returns-then-ne-clause-passes
returns-then-ne-clause-passes c = λ yes page.
    let same : c.of-known.result ≡ name_of (ident c.args.name.now).lower = cc in
    let lower : (ident c.args.name.now).lower ≡ (ident c.args.name.now).written = c.is_lower.ensures.0 (search rules) in
    let own : nat_eq c.of-known.result.number 159 ≡ false = not-true (nat_eq c.of-known.result.number 159) (sym c.ne.ensures ∙ c.if-ne.true) in
    record {
      exact = refl;
      holds = λ n h. (known_is page n (ident c.args.name.now) c.of-known.result same (λ e. false≢true (sym own ∙ eq-eqb c.of-known.result.number 159 e)) lower).1 h;
    }

pub returns-clause-seen : goal.returns-clause-seen
returns-clause-seen c = λ page n h.
    let same : c.of-known.result ≡ name_of (ident c.args.name.now).lower = cc in
    name_seen page n (ident c.args.name.now) c.of-known.result same h
