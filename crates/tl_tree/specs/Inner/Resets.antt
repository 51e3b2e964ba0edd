-- Which insertion mode the stack decides, a frame further out with each step.
use Rattle.std.specs.Prelude.{Bool, reverse, take, ℕ}
use Rattle.tl_dom_spec.specs.Builder.{Mode}
use Rattle.tl_dom_spec.specs.Path.{elements}
use Rattle.tl_dom_spec.specs.Reset as reset
use Rattle.tl_tree.specs.Inner.Builders.{builder_of}
use Rattle.tl_tree.specs.Inner.Frames.{frames_of}
use Rattle.tl_tree.specs.declared.builder.Builder.{Builder}
use Rattle.tl_tree.specs.declared.frame.Frame.{Frame}

abbrev pub is_open : Frame → Bool
is_open f = f.is_open

-- the mode that so many of the outermost frames decide
unfoldable pub mode_from : Builder → ℕ → Mode
mode_from b n = reset.mode_of (builder_of b) (elements (reverse (take n (frames_of b.path))))
