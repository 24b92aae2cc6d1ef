-- A sound meter: block 0 says a well-formed head, in blocks that are there, sound and whole, and the clock is in the calendar.
use Rattle.std.specs.Prelude.{◌≡◌, ℕ, ◌<◌, ◌≤◌, true, List, length, Ok}
use Rattle.access.specs.Ready.{needed, Ready, content_of}
use Rattle.calendar.specs.Calendar.{seconds_in_all}
use Rattle.memory.specs.Blocks.{Block, Whole}
use Rattle.head.specs.declared.head.Head.{Head}
use Rattle.head.specs.Heads.{encode_head}
use Rattle.head.specs.Order.{in_order, WellFormed}
use Rattle.model.specs.States.{Meter}
use Rattle.model.specs.Calls.{formatted, started, tick, energy}
use Rattle.model.specs.Serving.{served}

pub record SoundImage (bs : List Block) : Type 0 where
  pub ready : Ready bs
  pub whole : Whole bs
  pub head : Head
  pub formed : WellFormed head
  pub says : content_of bs 0 ≡ encode_head head

pub record SoundMeter (m : Meter) : Type 0 where
  pub image : SoundImage m.blocks
  pub clock : m.clock < seconds_in_all

-- A sound image is in order; format makes one of any memory with room; a start on one makes a sound meter; ticks, energy and serving keep it sound, refused or not.
pub record StaysSound : Type 0 where
  pub order : (bs : List Block) → SoundImage bs → in_order (content_of bs 0) ≡ true
  pub format : (bs : List Block) → needed ≤ length bs → Whole bs → SoundImage (formatted bs)
  pub start : (bs : List Block) (s : ℕ) (m : Meter) → SoundImage bs → (started bs s).answer ≡ Ok m → SoundMeter m
  pub tick : (m : Meter) → SoundMeter m → SoundMeter (tick m).meter
  pub energy : (wh : ℕ) (m : Meter) → SoundMeter m → SoundMeter (energy wh m).meter
  pub serve : (key : ℕ) (bytes : List ℕ) (m : Meter) (answer scratch : List ℕ) → SoundMeter m → SoundMeter (served key bytes m answer scratch).meter
