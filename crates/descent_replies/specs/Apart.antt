-- A descent call over words of its own: its answer, visits and checkpoint. It is beyond 01 and 02, as the descent is.
use Rattle.std.specs.Prelude.{◌≡◌}
use Rattle.descend.specs.declared.Descended.{Descended as DescendedCode}
use Rattle.descend.specs.Call.{Descended}
use Rattle.descend.specs.Answers.{descended_of}

-- the answer, the visits and the checkpoint are this call's
abbrev pub DescendedBy : DescendedCode → Descended → Type 0
DescendedBy r call = descended_of r call.workspace ≡ call
