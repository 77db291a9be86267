-- What is handed out of a packed log is what is handed out of the log itself. `proofs/PackedTold.antt` has the theorem.
-- Definitions only.
use Rattle.std.specs.Prelude.{◌≡◌, ℕ, List}
use Rattle.std.specs.declared.result.Result.TheVariants.{Ok}
use Rattle.records.specs.Log.{Log, decode}
use Rattle.e79.specs.Doubles.{figures_of}
use Rattle.rules.specs.Quantities.{module_times, tool_times, of_module, of_tool}
use Rattle.rules.specs.Verdict.{verdict}
use Rattle.losses.specs.Losses.{losses_of}
use Rattle.packed.specs.Packed.{packed_bytes}
use Rattle.reporting.specs.Reports.{report_text}

pub record HandsOutTheSame (k l : Log) : Type 0 where
  pub modules : k.modules ≡ l.modules
  pub times : (m : ℕ) → module_times k m ≡ module_times l m
  pub tool_times : tool_times k ≡ tool_times l
  pub quantities : (m : ℕ) → of_module k m ≡ of_module l m
  pub tool_quantities : of_tool k ≡ of_tool l
  pub figures : (m : ℕ) → figures_of (of_module k m) ≡ figures_of (of_module l m)
  pub tool_figures : figures_of (of_tool k) ≡ figures_of (of_tool l)
  pub losses : (m : ℕ) → losses_of (of_module k m) ≡ losses_of (of_module l m)
  pub tool_losses : losses_of (of_tool k) ≡ losses_of (of_tool l)
  pub report : report_text k ≡ report_text l

-- every accepted log's state times, quantities, doubles, losses and report are its packed log's
abbrev pub PackedHandsOutTheSame : Type 0
PackedHandsOutTheSame = (s : List ℕ) → verdict s ≡ Ok tt → HandsOutTheSame (decode (packed_bytes s)) (decode s)
