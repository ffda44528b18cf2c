-- What a batch asks and leaves, on accepted input.
use Rattle.std.specs.Prelude.{◌≡◌, ℕ, ◌<◌}
use Rattle.definition.specs.Batch.{batch}
use Rattle.theory.specs.build.Walks.{epoch_after, epoch_end}
use Rattle.given.specs.Given.{Given, setting, WalkLimits, Wide}
use Rattle.given.specs.Listing.{Listing, walks_of, Listable}
use Rattle.given.specs.Held.{Held, Roomy, RoomKept}
use Rattle.marks.specs.Marked.{Marks}

-- no mark is past the epoch, and there is room for the epochs of its walks
pub record BatchReady (g : Given) (l : Listing) (epoch : ℕ) (h : Held) : Type 0 where
  pub limits : WalkLimits g
  pub table : Wide g h.wide
  pub listable : Listable g l
  pub roomy : Roomy g.n h.lent
  pub marks : Marks g.n h.lent.words epoch
  pub epochs : epoch_after epoch (walks_of g h.wide l) < epoch_end

-- the wide table is the definition's; nothing beyond the stated room differs; no mark is past the last epoch, and the next batch may go on from it
pub record BatchRun (g : Given) (l : Listing) (epoch last : ℕ) (before after : Held) : Type 0 where
  pub wide_is : after.wide ≡ batch (setting g) l.start g.params.extra l.nodes l.seeds before.wide
  pub kept : RoomKept g.n before.lent after.lent
  pub marks : Marks g.n after.lent.words last
  pub epoch_is : last ≡ epoch_after epoch (walks_of g before.wide l)
