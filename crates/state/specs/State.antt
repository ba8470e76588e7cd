-- The history with one bit set (document 01, "First: the answer" and "Second: the answer"), and a cryptogram's CID ("A sitting in full").
use Rattle.std.specs.Prelude.{ℕ, true}
use Rattle.state.specs.declared.History.{History}
use Rattle.state.specs.declared.Kind.{Kind}
use Rattle.state.specs.declared.Kind.TheVariants.{Aac, Tc, Arqc}

-- TC 40, ARQC 80, AAC 00
abbrev pub cid_of : Kind → ℕ
cid_of Aac = 0x00
cid_of Tc = 0x40
cid_of Arqc = 0x80

-- last online not completed
abbrev pub uncompleted_in : History → History
uncompleted_in history =
    record {
      uncompleted = true;
      online = history.online;
      failed = history.failed;
      unable = history.unable;
      missing = history.missing;
    }

-- issuer authentication failed
abbrev pub failed_in : History → History
failed_in history =
    record {
      uncompleted = history.uncompleted;
      online = history.online;
      failed = true;
      unable = history.unable;
      missing = history.missing;
    }

-- unable to go online
abbrev pub unable_in : History → History
unable_in history =
    record {
      uncompleted = history.uncompleted;
      online = history.online;
      failed = history.failed;
      unable = true;
      missing = history.missing;
    }

-- issuer data not received
abbrev pub missing_in : History → History
missing_in history =
    record {
      uncompleted = history.uncompleted;
      online = history.online;
      failed = history.failed;
      unable = history.unable;
      missing = true;
    }
