-- the line of a verdict; this project's profile
use Rattle.std.specs.Prelude.{ℕ, List, ◌++◌, codes, decimal}
use Rattle.ultra_model.specs.Text.{newline, reply_text}
use Rattle.ultra_serial_law.specs.declared.records.Entry.{Entry}
use Rattle.ultra_list.specs.SerialText.{list_entry_text}
use Rattle.ultra_verdict.specs.declared.verdict.Verdict.{Verdict}
use Rattle.ultra_verdict.specs.declared.verdict.Verdict.TheVariants.{Legal, NotIssued, Repeated, WrongReplay, WrongAnswer, TooLate, Missing, WrongCell}

-- an entry and what is wrong with it, `line L: not issued: P.N OP A [W] = R`
abbrev pub refusal_text : ℕ → List ℕ → Entry → List ℕ
refusal_text line words e = codes "line " ++ decimal line ++ words ++ list_entry_text e

-- when the entry was answered, and which entry before it was issued when, `, answered in I, after
-- P.N, issued in J`
abbrev pub lateness_text : ℕ → Entry → ℕ → List ℕ
lateness_text answered after issued =
    codes ", answered in " ++ decimal answered ++ codes ", after " ++ decimal after.pe ++ codes "."
    ++ decimal after.number ++ codes ", issued in " ++ decimal issued

-- the cell at an address, its value in the machine and after the list, `cell A: V, list U`
abbrev pub difference_text : ℕ → ℕ → ℕ → List ℕ
difference_text cell machine list =
    codes "cell " ++ decimal cell ++ codes ": " ++ decimal machine ++ codes ", list "
    ++ decimal list

abbrev pub words_of_verdict : Verdict → List ℕ
words_of_verdict Legal = codes "legal"
words_of_verdict (NotIssued line e) = refusal_text line (codes ": not issued: ") e
words_of_verdict (Repeated line e) = refusal_text line (codes ": repeated: ") e
words_of_verdict (WrongReplay line e r) =
    refusal_text line (codes ": wrong replay: ") e ++ codes ", replay " ++ reply_text r
words_of_verdict (WrongAnswer line e r) =
    refusal_text line (codes ": wrong answer: ") e ++ codes ", machine " ++ reply_text r
words_of_verdict (TooLate line e answered after issued) =
    refusal_text line (codes ": too late: ") e ++ lateness_text answered after issued
words_of_verdict (Missing e) = codes "missing: " ++ list_entry_text e
words_of_verdict (WrongCell cell machine list) = difference_text cell machine list

abbrev pub verdict_text : Verdict → List ℕ
verdict_text v = words_of_verdict v ++ newline
