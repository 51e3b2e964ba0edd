-- Parts of a value.
use Rattle.std.specs.Prelude.{List, length, take, ℕ, ◌-◌}
use Rattle.tl_tree_extract.specs.Runs.{behind, length_without}
use Rattle.tl_tree_extract.specs.declared.span.Part as declared
use Rattle.tl_tree_extract.specs.declared.run.Run.TheVariants.{Edge}

-- bytes, and where in a value they stand
pub record Part : Type 0 where
  pub start : ℕ
  pub bytes : List ℕ

abbrev pub part_said : declared.Part → Part
part_said p = record { start = p.start; bytes = p.bytes.now }

-- what is left of the front of a rest, up to where a later rest begins
abbrev pub up_to : List ℕ → List ℕ → List ℕ
up_to rest later = take (length rest - length later) rest

-- a URL as it is read, which stands at the front of what is left of so many bytes: without
-- controls and spaces around it
abbrev pub trimmed : ℕ → List ℕ → List ℕ → Part
trimmed whole rest url =
    let inner = behind Edge url in
    record {
      start = whole - (length rest - (length url - length inner));
      bytes = take (length_without Edge inner (length inner)) inner;
    }
