use Rattle.std.proofs.Common.{◌≤◌, length}
use Rattle.armcaps_io.specs.Pieces.{bytes_from}
use Rattle.armcaps_io.specs.Streams.{Appends}
use Rattle.armcaps_elf.specs.Images.{put_byte}
use Rattle.armcaps_elf.proofs.Written.{IsBetween}
use Rattle.armcaps_elf.proofs.writing.write_sections.Given as goal

-- the sink has the bytes below a place between the sections
abbrev pub invariant-loop-section : goal.invariant-loop-section
invariant-loop-section g l = record {
  within : l.done ≤ length l.file;
  between : IsBetween l.sections l.base l.file l.flat l.done l.section-index;
  sent : Appends (g.O.Sink.held l.fn.sink) (g.O.Sink.held l.sink) (bytes_from (put_byte l.sections l.base l.file l.flat) 0 l.done);
  count : g.O.Sink.faults l.fn.sink ≤ g.O.Sink.faults l.sink;
}
