-- What is kept of a table that was checked. Of this file nothing has to be believed: what is written of what stands for
-- an image and its table is proved to be `jump_image`.
use Rattle.std.specs.Prelude.{◌≡◌, ◌+◌, ◌*◌, ◌/◌, ◌%◌, ◌^◌, ◌<◌, ◌≤◌, ℕ, List, None, length, min, slice_index}
use Rattle.std.specs.List.{All}
use Rattle.armcaps_image.specs.Buckets.{begin_of}
use Rattle.armcaps_image.specs.Last.{last_that}
use Rattle.armcaps_jump.specs.declared.site.Site.{Site}
use Rattle.armcaps_jump.specs.Grouping.{sites_in}
use Rattle.armcaps_jump.specs.Jumped.{has_byte, sites_of}
use Rattle.armcaps_jump.specs.Refusals.{first_refusal}

-- the sites, piece after piece of the image, where those of each piece end, and the image's length
pub record JumpSites : Type 0 where
  pub sites : List Site
  pub ends : List ℕ
  pub size : ℕ

-- a site is a word of an image of this size
pub record IsSite (size : ℕ) (site : Site) : Type 0 where
  pub aligned : site.place % 4 ≡ 0
  pub within : site.place + 4 ≤ size

-- a site is a word of the piece from one place to another
pub record IsInPiece (from to : ℕ) (site : Site) : Type 0 where
  pub aligned : site.place % 4 ≡ 0
  pub low : from ≤ site.place
  pub high : site.place + 4 ≤ to

-- the sites are kept by the pieces of the image
pub record AreSites (jumps : JumpSites) : Type 0 where
  pub small : jumps.size ≤ 2 ^ 29
  pub pieces : jumps.size / 4096 < length jumps.ends
  pub order : (piece : ℕ) → piece < length jumps.ends → begin_of jumps.ends piece ≤ slice_index jumps.ends piece
  pub within : (piece : ℕ) → piece < length jumps.ends → slice_index jumps.ends piece ≤ length jumps.sites
  pub each : (piece : ℕ) → piece < length jumps.ends
      → All (IsInPiece (4096 * piece) (min jumps.size (4096 * piece + 4096))) (sites_in jumps.sites jumps.ends piece)

-- what is kept stands for an image and its table: the table lies in the image, no entry is refused, and at each place
-- the last site of its piece is the table's last
pub record StandsFor (jumps : JumpSites) (image : List ℕ) (table count : ℕ) : Type 0 where
  pub inside : table + 16 * count ≤ length image
  pub accepted : first_refusal image table count ≡ None
  pub size : jumps.size ≡ length image
  pub last : (place : ℕ)
      → last_that (has_byte place) (sites_in jumps.sites jumps.ends (place / 4096))
      ≡ last_that (has_byte place) (sites_of image table count)
