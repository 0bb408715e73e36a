-- Which words are a command.
use Rattle.std.specs.Prelude.{◌≡◌, ◌≢◌, ◌⊎◌, ℕ, ◌+◌, ◌^◌, ◌<◌, ◌≤◌, List, [], ◌∷◌, All, codes, length, slice_index, slice_index_or, if◌then◌else◌, bytes_eq}
use Rattle.std.specs.Str.{IsUtf8}
use Rattle.std.specs.Str.Parse.{IsNumeral, digits_value}
use Rattle.run_outcome.specs.declared.words.Asked.{Asked}
use Rattle.run_outcome.specs.declared.words.Command.{Command}
use Rattle.run_outcome.specs.declared.words.Command.TheVariants.{Unknown, Init, Script, Dump, Check, Gen, Load}
use Rattle.run_outcome.specs.declared.words.Way.{Way}
use Rattle.run_outcome.specs.declared.words.Way.TheVariants.{InTurn, OnThreads}

pub record IsText (word : List ℕ) : Type 0 where
  pub utf8 : IsUtf8 word

pub record IsKnown (word : List ℕ) : Type 0 where
  pub known : (word ≡ codes "run") ⊎ (word ≡ codes "play")

-- neither empty nor an option
pub record IsOperand (word : List ℕ) : Type 0 where
  pub present : word ≢ []
  pub no_dash : slice_index word 0 ≢ 45

-- `run FILE SCRIPT` or `play FILE SCRIPT`, after whatever name the program has
pub record IsScriptCommand (all : List (List ℕ)) : Type 0 where
  pub name : List ℕ
  pub command : List ℕ
  pub file : List ℕ
  pub script : List ℕ
  pub words : all ≡ name ∷ command ∷ file ∷ script ∷ []
  pub known : IsKnown command
  pub file_fits : IsOperand file
  pub script_fits : IsOperand script

pub record IsInit (word : List ℕ) : Type 0 where
  pub is : word ≡ codes "init"

-- `init FILE`, after whatever name the program has
pub record IsInitCommand (all : List (List ℕ)) : Type 0 where
  pub name : List ℕ
  pub command : List ℕ
  pub file : List ℕ
  pub words : all ≡ name ∷ command ∷ file ∷ []
  pub known : IsInit command
  pub file_fits : IsOperand file

pub record IsDump (word : List ℕ) : Type 0 where
  pub is : word ≡ codes "dump"

-- `dump FILE`, after whatever name the program has
pub record IsDumpCommand (all : List (List ℕ)) : Type 0 where
  pub name : List ℕ
  pub command : List ℕ
  pub file : List ℕ
  pub words : all ≡ name ∷ command ∷ file ∷ []
  pub known : IsDump command
  pub file_fits : IsOperand file

-- ---- numbers

-- digits alone, one of them or more, up to so many
pub record IsNumber (most : ℕ) (word : List ℕ) : Type 0 where
  pub digits : IsNumeral 10 word
  pub few : length word ≤ most

abbrev pub value_of : List ℕ → ℕ
value_of word = digits_value 10 word

-- a number from 1 to this one, in 1 to 5 digits
pub record IsCount (most : ℕ) (word : List ℕ) : Type 0 where
  pub number : IsNumber 5 word
  pub some : 0 < value_of word
  pub few : value_of word ≤ most

-- the number of a script in 1 to 20 digits, its sessions, and the transactions of each
pub record AreNumbers (number sessions transfers : List ℕ) : Type 0 where
  pub number_fits : IsNumber 20 number
  pub number_small : value_of number < 2 ^ 64
  pub sessions_fit : IsCount 64 sessions
  pub transfers_fit : IsCount 25000 transfers

abbrev pub word_at : ℕ → List (List ℕ) → List ℕ
word_at place words = slice_index_or words place []

-- the numbers that these three words and the next ones are
abbrev pub asked_in : ℕ → List (List ℕ) → Asked
asked_in place words = record {
  number = value_of (word_at place words);
  sessions = value_of (word_at (place + 1) words);
  transfers = value_of (word_at (place + 2) words);
}

pub record IsGen (word : List ℕ) : Type 0 where
  pub is : word ≡ codes "gen"

-- `gen NUMBER SESSIONS TXNS`, after whatever name the program has
pub record IsGenCommand (all : List (List ℕ)) : Type 0 where
  pub name : List ℕ
  pub command : List ℕ
  pub number : List ℕ
  pub sessions : List ℕ
  pub transfers : List ℕ
  pub words : all ≡ name ∷ command ∷ number ∷ sessions ∷ transfers ∷ []
  pub known : IsGen command
  pub fit : AreNumbers number sessions transfers

pub record IsCheck (word : List ℕ) : Type 0 where
  pub is : word ≡ codes "check"

-- `check FILE`, after whatever name the program has
pub record IsCheckCommand (all : List (List ℕ)) : Type 0 where
  pub name : List ℕ
  pub command : List ℕ
  pub file : List ℕ
  pub words : all ≡ name ∷ command ∷ file ∷ []
  pub known : IsCheck command
  pub file_fits : IsOperand file

pub record IsLoad (word : List ℕ) : Type 0 where
  pub is : word ≡ codes "load"

-- `load FILE NUMBER SESSIONS TXNS`, after whatever name the program has
pub record IsLoadCommand (all : List (List ℕ)) : Type 0 where
  pub name : List ℕ
  pub command : List ℕ
  pub file : List ℕ
  pub number : List ℕ
  pub sessions : List ℕ
  pub transfers : List ℕ
  pub words : all ≡ name ∷ command ∷ file ∷ number ∷ sessions ∷ transfers ∷ []
  pub known : IsLoad command
  pub file_fits : IsOperand file
  pub fit : AreNumbers number sessions transfers

-- ---- commands

-- Under `run` each session of a script has a thread; else they take turns.
abbrev pub way_in : List (List ℕ) → Way
way_in words = if bytes_eq (word_at 1 words) (codes "run") then OnThreads else InTurn

-- one of these
abbrev pub IsOneOf : List (List ℕ) → Type 0
IsOneOf words = IsScriptCommand words ⊎ (IsInitCommand words ⊎ (IsDumpCommand words ⊎ (IsCheckCommand words ⊎ (IsGenCommand words ⊎ IsLoadCommand words))))

-- a command in texts
abbrev pub IsCommand : List (List ℕ) → Type 0
IsCommand words = All IsText words × IsOneOf words

abbrev pub NoScript : List (List ℕ) → Type 0
NoScript words = IsScriptCommand words → ⊥

abbrev pub NoInit : List (List ℕ) → Type 0
NoInit words = IsInitCommand words → ⊥

abbrev pub NoDump : List (List ℕ) → Type 0
NoDump words = IsDumpCommand words → ⊥

abbrev pub NoCheck : List (List ℕ) → Type 0
NoCheck words = IsCheckCommand words → ⊥

abbrev pub NoGen : List (List ℕ) → Type 0
NoGen words = IsGenCommand words → ⊥

abbrev pub NoLoad : List (List ℕ) → Type 0
NoLoad words = IsLoadCommand words → ⊥

-- The words are no other command than the one of this variant.
abbrev pub IsAlone : Command → List (List ℕ) → Type 0
IsAlone Unknown words = Unit {0}
IsAlone Init words = NoScript words × NoDump words × NoCheck words × NoGen words × NoLoad words
IsAlone (Script way) words = NoInit words × NoDump words × NoCheck words × NoGen words × NoLoad words
IsAlone Dump words = NoScript words × NoInit words × NoCheck words × NoGen words × NoLoad words
IsAlone Check words = NoScript words × NoInit words × NoDump words × NoGen words × NoLoad words
IsAlone (Gen asked) words = NoScript words × NoInit words × NoDump words × NoCheck words × NoLoad words
IsAlone (Load asked) words = NoScript words × NoInit words × NoDump words × NoCheck words × NoGen words

-- Which command the words are. Of others it says that they are none.
abbrev pub Tells : Command → List (List ℕ) → Type 0
Tells Unknown words = IsCommand words → ⊥
Tells Init words = IsCommand words × IsInitCommand words
Tells (Script way) words = IsCommand words × IsScriptCommand words × (way ≡ way_in words)
Tells Dump words = IsCommand words × IsDumpCommand words
Tells Check words = IsCommand words × IsCheckCommand words
Tells (Gen asked) words = IsCommand words × IsGenCommand words × (asked ≡ asked_in 2 words)
Tells (Load asked) words = IsCommand words × IsLoadCommand words × (asked ≡ asked_in 3 words)
