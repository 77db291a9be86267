-- Case W of document 01 whole: the 121 bytes of its log, what they say, the 183 bytes of its report, and the tool's losses. Definitions only.
use Rattle.std.specs.Prelude.{ℕ, ◌≡◌, List, [], ◌∷◌, ◌++◌, length}
use Rattle.records.specs.declared.UnitRecord.{UnitRecord}
use Rattle.records.specs.Log.{Log, decode}
use Rattle.rules.specs.declared.Ground.TheVariants.{ShortBuffer}
use Rattle.rules.specs.declared.LogList.TheVariants.{NoList}
use Rattle.std.specs.declared.result.Result.TheVariants.{Ok}
use Rattle.rules.specs.Quantities.{of_tool}
use Rattle.rules.specs.Verdict.{verdict}
use Rattle.losses.specs.Losses.{losses_of}
use Rattle.report.specs.Text.{ascii}
use Rattle.reporting.specs.Reports.{report_text, verdict_for, written_part}
use Rattle.edges.specs.Cases.{state, standard_of, log, refused}

-- the bytes of the log, a line for each record: the header, eight state records, three standards, three unit records
unfoldable pub case_w : List ℕ
case_w =
    0x04 ∷ 0x81 ∷ 0x90 ∷ 0x80 ∷ 0x00 ∷ 0xc0 ∷ 0x08 ∷ 0x00 ∷ 0x60 ∷ 0x03
    ∷ 0x00 ∷ 0x00 ∷ 0x00 ∷ 0x00 ∷ 0x00 ∷ 0x00
    ∷ 0x04 ∷ 0x00 ∷ 0x00 ∷ 0x00 ∷ 0x00 ∷ 0x00
    ∷ 0x08 ∷ 0x00 ∷ 0x00 ∷ 0x00 ∷ 0x00 ∷ 0x00
    ∷ 0x08 ∷ 0xe0 ∷ 0x44 ∷ 0xaa ∷ 0x20 ∷ 0x00
    ∷ 0x04 ∷ 0xe0 ∷ 0x7f ∷ 0x07 ∷ 0x88 ∷ 0x00
    ∷ 0x00 ∷ 0xe0 ∷ 0x80 ∷ 0xbe ∷ 0xfc ∷ 0x00
    ∷ 0x06 ∷ 0x40 ∷ 0x87 ∷ 0x9c ∷ 0xcc ∷ 0x00
    ∷ 0x02 ∷ 0x40 ∷ 0x8b ∷ 0xe7 ∷ 0x6e ∷ 0x00
    ∷ 0x00 ∷ 0x00 ∷ 0x00 ∷ 0x00 ∷ 0x00 ∷ 0x00 ∷ 0x00 ∷ 0x6d ∷ 0xdd ∷ 0x00
    ∷ 0x04 ∷ 0x00 ∷ 0x00 ∷ 0x00 ∷ 0x00 ∷ 0x00 ∷ 0x00 ∷ 0x6d ∷ 0xdd ∷ 0x00
    ∷ 0x08 ∷ 0x00 ∷ 0x00 ∷ 0x00 ∷ 0x00 ∷ 0x00 ∷ 0x00 ∷ 0x6d ∷ 0xdd ∷ 0x00
    ∷ 0x00 ∷ 0x00 ∷ 0x00 ∷ 0x06 ∷ 0xdd ∷ 0xd0 ∷ 0x00 ∷ 0x23 ∷ 0x00 ∷ 0x20 ∷ 0xa0
    ∷ 0x04 ∷ 0x00 ∷ 0x00 ∷ 0x06 ∷ 0xdd ∷ 0xd0 ∷ 0x00 ∷ 0x24 ∷ 0x40 ∷ 0x22 ∷ 0xc0
    ∷ 0x08 ∷ 0x00 ∷ 0x00 ∷ 0x06 ∷ 0xdd ∷ 0xd0 ∷ 0x00 ∷ 0x12 ∷ 0xc0 ∷ 0x12 ∷ 0xc0 ∷ []

-- units of recipe 0 that module m made, at 3,600,000
abbrev pub units_of : ℕ → ℕ → ℕ → UnitRecord
units_of m actual effective = record { «module» = m; recipe = 0; time = 3600000; actual = actual; effective = effective; spare = 0 }

-- the numbers of document 01, with R-5's standard for each module
unfoldable pub case_w_log : Log
case_w_log =
    log 604800000 3
    (state 0 0 0 ∷ state 1 0 0 ∷ state 2 0 0 ∷ state 2 7 288000000 ∷ state 1 7 532800000 ∷ state 0 7 540000000 ∷ state 1 18 568800000 ∷ state 0 18 586800000 ∷ [])
    (standard_of 0 0 0 1800000 ∷ standard_of 1 0 0 1800000 ∷ standard_of 2 0 0 1800000 ∷ [])
    (units_of 0 280 261 ∷ units_of 1 290 278 ∷ units_of 2 150 150 ∷ [])

-- the whole report
unfoldable pub case_w_report : List ℕ
case_w_report =
    ascii "module avail oper rate qual oee\n"
    ++ ascii "0 0.9702 0.9202 0.9333 0.9321 0.7768\n"
    ++ ascii "1 0.9405 0.9367 0.9797 0.9586 0.8274\n"
    ++ ascii "2 1.0000 0.4762 0.9375 1.0000 0.4464\n"
    ++ ascii "tool 0.9702 0.7730 0.9524 0.9569 0.6835\n"

-- what is claimed: the bytes say those numbers, and their report is the whole one; it fits a buffer of 183 bytes, and none of 182; the tool's losses are R-6's
pub record CaseW : Type 0 where
  pub records : decode case_w ≡ case_w_log
  pub accepted : verdict case_w ≡ Ok tt
  pub report : report_text (decode case_w) ≡ case_w_report
  pub size : length case_w_report ≡ 183
  pub in_183 : written_part case_w 183 ≡ case_w_report
  pub in_182 : verdict_for case_w 182 ≡ refused ShortBuffer NoList 0
  pub losses : losses_of (of_tool (decode case_w)) ≡ record { availability = 298; operational = 2202; rate = 357; quality = 308; oee = 6835 }
