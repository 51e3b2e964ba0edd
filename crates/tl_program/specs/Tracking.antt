-- What is tracked while a page is read.
use Rattle.tl_tracking.specs.Options.{Options, untracked}
use Rattle.std.specs.Prelude.{true}
use Rattle.tl_program.specs.Action.{Action, FindsClass, FindsId}

-- that of which something is written
abbrev pub tracked_of : Action → Options
tracked_of (FindsId id) = record untracked { ids = true }
tracked_of (FindsClass member) = record untracked { classes = true }
tracked_of _ = untracked
