pub mod DeskRuns
